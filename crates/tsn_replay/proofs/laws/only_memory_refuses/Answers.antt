use Rattle.tsn_replay.specs.Handling.{Handles}
use Rattle.tsn_replay.proofs.LeadingBack.{lived, only_memory}
use Rattle.tsn_replay.proofs.Running.{handles_within}
use Rattle.tsn_replay.proofs.laws.only_memory_refuses.Goals as goal

pub returns : goal.returns
returns c line most start now lives written h done ask rest between new why is so_far step =
    only_memory start now written (lived (Handles line most) (handles_within line most) lives start now written h) done ask rest between new
    why is so_far step

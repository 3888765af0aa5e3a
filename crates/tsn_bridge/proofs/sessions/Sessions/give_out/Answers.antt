use Rattle.std.proofs.Common.{◌+◌, Some, None, subst, sym}
use Rattle.tsn_bridge.specs.Names.{AreWithin}
use Rattle.tsn_bridge.proofs.Naming.{within_next}
use Rattle.tsn_bridge.proofs.sessions.Sessions.give_out.Goals as goal
use Rattle.tsn_bridge.proofs.sessions.Sessions.give_out.Goals.{in-Some+in_ok-push, in_default}

pub invariant_of-self-2 : goal.invariant_of-self-2
invariant_of-self-2 c =
    let i = c.self.inside in
    elim c.match-name.branch [
      | in-Some+in_ok-push w ↦ rw w.self-inside-is
          (subst (λ l. AreWithin 0 l (i.count + 1)) (sym w.in_ok-push.ensures.items)
          (within_next i.count (Some w.in-Some.name) i.names.items c.self.invariant))
      | in_default w ↦ rw w.self-inside-is (within_next i.count None i.names.items c.self.invariant)
    ]

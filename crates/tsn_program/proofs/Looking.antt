-- A look at a line breaks off where the writer fails.
use Rattle.std.proofs.Common.{◌≡◌, ◌+◌, ◌∙◌, ℕ, List, take, Option, Some, Result, Ok, Err, OnErr, inl, refl}
use Rattle.std.specs.Result.{IfErr}
use Rattle.std.specs.Io.KnownBytes.{Appends}
use Rattle.tsn_bytes.specs.Bytes.{IsCut}
use Rattle.tsn_bytes.specs.declared.bytes.Fault.{Fault}
use Rattle.tsn_bytes.specs.declared.bytes.Fault.TheVariants.{Write}
use Rattle.tsn_types.specs.declared.refusals.Refusal.{Refusal}
use Rattle.tsn_program.specs.Lines.{BreaksLooking, IsTold, Looked, WhyNot, counted_in}

pub broke_in_looking : {T : Type 0} (r : Result T Fault) (old new : Looked) (line : Option (List ℕ)) (why : Refusal) (told text : List ℕ)
    (taken taken' : Option (List ℕ))
    → WhyNot line (Some why) → IsTold (old.lines + 1) (Some why) told → text ≡ told → new ≡ counted_in old (Some why)
    → IfErr r (λ e. e ≡ Write) → OnErr r (IsCut taken taken' text)
    → IfErr r (λ e. (part : List ℕ) × BreaksLooking old line e part new × Appends taken taken' part)
broke_in_looking (Ok x) old new line why told text taken taken' reads tells same counts write cut = tt
broke_in_looking (Err e) old new line why told text taken taken' reads tells same counts write cut =
    (take cut.0 text, inl (write, (text, (Some why, reads, (tells.0, same ∙ tells.1), counts), (cut.0, cut.1, refl))), cut.2)

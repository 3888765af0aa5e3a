use Rattle.std.proofs.Common.{◌≡◌, ◌∙◌, None, ap, inl, inr, refl}
use Rattle.std.proofs.KnownBytes.{Appends-kept}
use Rattle.tsn_failures.specs.declared.failures.Failure.TheVariants.{Fault}
use Rattle.tsn_program.proofs.Listing.{enables_listed, enables_not_listed, listed_within}
use Rattle.tsn_program.specs.Listing.{Enables, listing_refusal}
use Rattle.tsn_program.proofs.program.list_states.Given.{Over}
use Rattle.tsn_program.proofs.program.list_states.Goals.{After-write_states}
use Rattle.tsn_program.proofs.program.list_states.Goals as goal

pub returns-in-Err-enable_at : goal.returns-in-Err-enable_at
returns-in-Err-enable_at g c =
    let ok = c.in-Ok.ensures.ok in
    let none = listed_within c.limits.result c.args.bridge.now.book.limits c.args.listing.now
    (c.limits.ensures.limits ∙ c.config.ensures.limits) ok.0 in
    let refused = enables_not_listed c.args.bridge.now c.args.listing.now c.in-Ok.port c.first_instant.result c.in-Err-enable_at.why ok.1
    c.first_instant.ensures c.in-Err-enable_at.ensures.refused in
    inl (c.in-Err-enable_at.why, refl, (refl, inr (none, refused)))

-- the port is told, and the list is enabled
enabled : (g : Over) (c : After-write_states g)
    → (listing_refusal c.args.bridge.now.book.limits c.args.listing.now ≡ None)
    × Enables c.args.bridge.now c.args.listing.now.port c.args.listing.now.from c.enable_at.new.bridge
enabled g c =
    let ok = c.in-Ok.ensures.ok in (
      listed_within c.limits.result c.args.bridge.now.book.limits c.args.listing.now
          (c.limits.ensures.limits ∙ c.config.ensures.limits) ok.0,
      enables_listed c.args.bridge.now c.enable_at.new.bridge c.args.listing.now c.in-Ok.port c.first_instant.result ok.1
          c.first_instant.ensures c.in-Ok-enable_at.ensures.ok,
    )

pub returns-in-Err-write_states : goal.returns-in-Err-write_states
returns-in-Err-write_states g c =
    let on = enabled g (goal.at.returns-in-Err-write_states g c).After-write_states in
    let failed = c.in-Err-write_states.ensures in
    inr (on.0, (c.enable_at.new.bridge, on.1, (ap (λ f. Fault f) failed.fault, failed.failed, inl failed.cut)))

pub returns-in_default : goal.returns-in_default
returns-in_default g c =
    let on = enabled g (goal.at.returns-in_default g c).After-write_states in
    let bytes = Appends-kept _ _ _ _ c.in-Ok-write_states.ensures.ok c.in_default.ensures.bytes in
    inr (on.0, (c.enable_at.new.bridge, on.1, (refl, c.in_default.ensures.failed, inr bytes)))

pub returns : goal.returns
returns g c =
    let on = enabled g (goal.at.returns g c).After-write_states in
    let bytes = Appends-kept _ _ _ _ c.in-Ok-write_states.ensures.ok c.in-Ok-flush.ensures.bytes in
    (on.0, (c.enable_at.new.bridge, on.1, (bytes, c.in-Ok-flush.ensures.ok)))

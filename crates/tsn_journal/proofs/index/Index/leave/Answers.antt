use Rattle.std.proofs.Common.{◌≡◌, ◌∷◌, [], ◌++◌, Option, Some, sym, subst, ◌∙◌, ap, arith}
use Rattle.std.specs.Option.{option_copied}
use Rattle.tsn_edit.specs.Parts.{Change, parts}
use Rattle.tsn_journal.specs.declared.groups.Group.TheVariants.{Of, EndsRedo}
use Rattle.tsn_entries.specs.Entries.{adds}
use Rattle.tsn_journal.specs.Newest.{MendsNewest, groups_added}
use Rattle.tsn_journal.proofs.Newest.{mends_then}
use Rattle.tsn_journal.specs.declared.index.Index.{Index}
use Rattle.tsn_journal.specs.Index.{IsIndexed, groups_of_parts}
use Rattle.tsn_journal.proofs.index.Index.leave.Goals as goal
use Rattle.tsn_journal.proofs.index.Index.leave.Goals.{in-Some, in_default}

pub lower_session-requires-clause-index : goal.lower_session-requires-clause-index
lower_session-requires-clause-index c = elim c.match-added.branch [
  | in-Some w ↦ subst (λ (a : Index). IsIndexed c.args.marked.now a) (sym w.self-is) w.lower_parts.ensures.index
  | in_default w ↦ subst (λ (a : Index). IsIndexed c.args.marked.now a) (sym w.self-is) c.requires.index
]

pub returns-clause-newest : goal.returns-clause-newest
returns-clause-newest c =
    let ms = c.args.marked.now in
    let e = c.args.taken_back.now in
    let own = Some (Of e.session) ∷ Some (EndsRedo e.session) ∷ [] in
    let old = c.args.self.now in
    let new = c.lower_session.new.self in
    elim c.match-added.branch [
      | in-Some w ↦
          let last : MendsNewest ms own w.lower_parts.new.self new = subst (λ (a : Index). MendsNewest ms own a new) w.self-is
          c.lower_session.ensures.newest in
          let is : Some (parts w.in-Some.change.now) ≡ adds e.what = ap option_copied (sym w.in-Some.is) ∙ c.added.ensures in
          subst (λ (o : Option Change). MendsNewest ms (groups_added o ++ own) old new) is
          (mends_then ms _ own old w.lower_parts.new.self new
          (subst (λ ps. MendsNewest ms (groups_of_parts ps) old w.lower_parts.new.self) w.parts.ensures.parts
          w.lower_parts.ensures.newest) last)
      | in_default w ↦ grind arith
    ]

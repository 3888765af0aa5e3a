use Rattle.std.proofs.Common.{◌≡◌, drop, map}
use Rattle.std.specs.List.{list_any}
use Rattle.std.specs.Str.{bytes_eq}
use Rattle.tsn_setup.proofs.members.is_among.Given as goal

-- the name is among the members that are left if it is among all
abbrev pub invariant-loop-member : goal.invariant-loop-member
invariant-loop-member l =
    list_any (λ known. bytes_eq known l.name) (map (λ member. member.0.now) (drop l.member-index l.members)) ≡
    list_any (λ known. bytes_eq known l.name) (map (λ member. member.0.now) l.members)

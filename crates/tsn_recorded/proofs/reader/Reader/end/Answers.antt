use Rattle.std.proofs.Common.{◌≡◌, ◌≢◌, ◌⊎◌, ◌+◌, ◌-◌, ◌∙◌, ℕ, List, true, false, ap, drop, length, take, subst}
use Rattle.std.specs.Prelude.{All, Contains}
use Rattle.std.proofs.lemmas.List.{take_rest}
use Rattle.tsn_recorded.specs.Text.{line_feed}
use Rattle.tsn_recorded.specs.Reader.{Standing}
use Rattle.tsn_recorded.proofs.Giving.{ends_damaged, ends_unfinished}
use Rattle.tsn_recorded.proofs.reader.Reader.end.Goals as goal

pub returns-then-has_line_feed : goal.returns-then-has_line_feed
returns-then-has_line_feed c fed rs given =
    let inside = c.self.inside in
    let rest = take_rest c.bytes.result.now inside.given ∙ ap (drop inside.given) c.bytes.ensures in
    let P : List ℕ → Type 0 = λ t. (inside.has_line_feed ≡ true) ⊎ Contains t line_feed in
    let Q : Standing → Type 0 = λ s. (s.has_line_feed ≡ true) ⊎ Contains s.held line_feed in
    let found = subst Q c.self.view_is (subst P rest c.if-has_line_feed.ensures.some) in
    ends_damaged fed rs c.args.self.now given found (inside.lines + 1) (ap (λ (s : Standing). s.lines + 1) c.self.view_is)

pub returns : goal.returns
returns c fed rs given =
    let inside = c.self.inside in
    let held = take (length c.bytes.result.now - inside.given) (drop inside.given c.bytes.result.now) in
    let rest = take_rest c.bytes.result.now inside.given ∙ ap (drop inside.given) c.bytes.ensures in
    let P : List ℕ → Type 0 = λ t. (inside.has_line_feed ≡ false) × All (λ b. b ≢ line_feed) t in
    let Q : Standing → Type 0 = λ s. (s.has_line_feed ≡ false) × All (λ b. b ≢ line_feed) s.held in
    let none = subst Q c.self.view_is (subst P rest c.if-has_line_feed.ensures.none) in
    let size = ap (λ t. length t + inside.counted) rest ∙ ap (λ (s : Standing). length s.held + s.counted) c.self.view_is in
    ends_unfinished fed rs c.args.self.now given none (length held + inside.counted) size c.if-bytes-eq0.false

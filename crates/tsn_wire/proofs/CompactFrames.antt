-- A frame's line in the service's compact spelling is read as the draft that it spells.
use Rattle.std.proofs.Common.{◌≡◌, ℕ, ◌++◌, List, Bool, codes, decimal, refl, ap, ◌∙◌}
use Rattle.json.specs.Print.{escape_byte}
use Rattle.serde_json.specs.Data.{boolean}
use Rattle.serde_json.specs.Written.{compact_text}
use Rattle.tsn_chain.specs.declared.frame.Frame.{Frame}
use Rattle.tsn_wire.specs.Reading.{line_of_draft, reading}
use Rattle.tsn_wire.specs.Spelled.{IsSmall}
use Rattle.tsn_wire.specs.Values.{frame_data}
use Rattle.tsn_wire.specs.declared.drafts.CommandDraft.TheVariants as wanted
use Rattle.tsn_wire.specs.declared.drafts.LineDraft.TheVariants.{Session}
use Rattle.tsn_wire.proofs.CompactSpelling.{value_says}
use Rattle.tsn_wire.proofs.CompactValues.{framed}

-- what comes behind the handle
abbrev behind_handle : ℕ → Frame → ℕ → List ℕ
behind_handle s f now =
    codes ",\"now\":" ++ (decimal now ++ (codes ",\"octets\":" ++ (decimal f.octets ++ (codes ",\"priority\":" ++ (decimal f.priority
    ++ (codes ",\"s\":" ++ (decimal s ++ (codes ",\"yellow\":" ++ (compact_text (boolean f.yellow) ++ codes "}")))))))))

frame_text : (s : ℕ) (f : Frame) (now : ℕ)
    → codes "{\"do\":\"frame\",\"handle\":" ++ (decimal f.handle ++ behind_handle s f now) ≡ compact_text (frame_data s f now)
unfolding escape_byte
frame_text s f now = refl

-- the pieces of the line, each with what was left behind it
pub frame_says : (line t1 t2 t3 t4 t5 t6 : List ℕ) (h now o p s : ℕ) (y : Bool) → IsSmall h → IsSmall now → IsSmall o → IsSmall p
    → IsSmall s → line ≡ codes "{\"do\":\"frame\",\"handle\":" ++ (decimal h ++ t1) → t1 ≡ codes ",\"now\":"
    ++ (decimal now ++ t2) → t2 ≡ codes ",\"octets\":" ++ (decimal o ++ t3) → t3 ≡ codes ",\"priority\":"
    ++ (decimal p ++ t4) → t4 ≡ codes ",\"s\":" ++ (decimal s ++ t5) → t5 ≡ codes ",\"yellow\":"
    ++ (compact_text (boolean y) ++ t6) → t6 ≡ codes "}" → reading line ≡ line_of_draft
    (Session s (wanted.Frame (record { handle = h; priority = p; octets = o; yellow = y }) now))
frame_says line t1 t2 t3 t4 t5 t6 h now o p s y small_h small_now small_o small_p small_s e0 e1 e2 e3 e4 e5 e6 =
    let f : Frame = record { handle = h; priority = p; octets = o; yellow = y } in
    let flag : t5 ≡ codes ",\"yellow\":" ++ (compact_text (boolean y) ++ codes "}") = e5
    ∙ ap (λ l. codes ",\"yellow\":" ++ (compact_text (boolean y) ++ l)) e6 in
    let by_session : t4 ≡ codes ",\"s\":" ++ (decimal s ++ (codes ",\"yellow\":" ++ (compact_text (boolean y) ++ codes "}"))) = e4
    ∙ ap (λ l. codes ",\"s\":" ++ (decimal s ++ l)) flag in
    let by_priority = e3 ∙ ap (λ l. codes ",\"priority\":" ++ (decimal p ++ l)) by_session in
    let by_octets = e2 ∙ ap (λ l. codes ",\"octets\":" ++ (decimal o ++ l)) by_priority in
    let by_now : t1 ≡ behind_handle s f now = e1 ∙ ap (λ l. codes ",\"now\":" ++ (decimal now ++ l)) by_octets in
    let whole_line = e0 ∙ ap (λ l. codes "{\"do\":\"frame\",\"handle\":" ++ (decimal h ++ l)) by_now in
    value_says line s (wanted.Frame (record { handle = h; priority = p; octets = o; yellow = y }) now) tt
    (framed s f now small_h small_now small_o small_p small_s) (whole_line ∙ frame_text s f now)

-- What holds of the line of an ask.
use Rattle.std.proofs.Common.{◌≡◌, ℕ, ◌&&◌, Bool, true, false, not, nat_le, cond, List, ◌++◌, length, Option, Some, None, codes, IsUtf8, refl, sym, ap, subst, ◌∙◌, arith}
use Rattle.std.specs.Prelude.{All}
use Rattle.std.proofs.lemmas.Bool.{and_parts}
use Rattle.std.proofs.lemmas.List.Elements.{All-append}
use Rattle.std.proofs.lemmas.Str.{IsUtf8-append, IsUtf8-from_is_utf8, is_utf8-from_IsUtf8}
use Rattle.json.specs.Print.{quoted}
use Rattle.json.proofs.Printed.Utf8.{IsUtf8-are_ascii, IsUtf8-quoted}
use Rattle.tsn_types.specs.Names.{has_control, is_name, longest_name}
use Rattle.std.specs.Str.{is_utf8}
use Rattle.serde_json.specs.Data.{Data}
use Rattle.serde_json.specs.Read.{read}
use Rattle.serde_json.specs.Written.{compact_text}
use Rattle.tsn_commands.specs.declared.command.Command.{Command}
use Rattle.tsn_wire.proofs.Accepting.{accepts_values}
use Rattle.tsn_wire.specs.Reading.{data_of}
use Rattle.tsn_wire.specs.Values.{MayBeAsked, hello_data, value_of}
use Rattle.tsn_spelling.specs.Laws.{ReadsBack, HasNoLineFeed, WasAsked, IsAskedAgain, IsNoLonger, ActsMayBeAsked, HelloMayBeAsked}
use Rattle.tsn_spelling.specs.Line.{line_text}
use Rattle.tsn_spelling.proofs.Asked.{by_name, value_plain, value_shown}
use Rattle.tsn_wire.proofs.Backs.{read_back}
use Rattle.tsn_spelling.proofs.Feeds.{IsNoFeed, quoted_no_feed}
use Rattle.tsn_spelling.proofs.Shapes.{named_text}
use Rattle.tsn_spelling.proofs.Shortest.{AreWhole, no_longer, shown_whole}
use Rattle.tsn_wire.proofs.Visible.{text_visible, visible_utf8, no_feed}

-- the line is UTF-8: that of a hello by a name, and any other
named_utf8 : (name : List ℕ) → is_name name ≡ true → is_utf8 (compact_text (hello_data (Some name))) ≡ true
named_utf8 name h =
    let front = codes "{\"do\":\"hello\",\"name\":" in
    let p = and_parts (is_utf8 name && nat_le 1 (length name) && nat_le (length name) longest_name) (not (has_control 0 name)) h in
    let q = and_parts (is_utf8 name && nat_le 1 (length name)) (nat_le (length name) longest_name) p.0 in
    let u = and_parts (is_utf8 name) (nat_le 1 (length name)) q.0 in
    is_utf8-from_IsUtf8 _ (subst IsUtf8 (sym (named_text name))
    (IsUtf8-append front (quoted name ++ codes "}") (IsUtf8-are_ascii front refl)
    (IsUtf8-append (quoted name) (codes "}") (IsUtf8-quoted name (IsUtf8-from_is_utf8 name u.0)) (IsUtf8-are_ascii (codes "}") refl))))

line_utf8 : (s : ℕ) (c : Command) → MayBeAsked s c → is_utf8 (compact_text (value_of s c)) ≡ true
line_utf8 s = by_name (λ c. MayBeAsked s c → is_utf8 (compact_text (value_of s c)) ≡ true) (λ name h. named_utf8 name h.1)
    (λ c other h. visible_utf8 (compact_text (value_of s c)) (text_visible (value_of s c) (value_shown s c other)))

-- and has no line feed
named_no_feed : (name : List ℕ) → All IsNoFeed (compact_text (hello_data (Some name)))
named_no_feed name =
    let front = codes "{\"do\":\"hello\",\"name\":" in
    subst (All IsNoFeed) (sym (named_text name))
    (All-append IsNoFeed front (quoted name ++ codes "}") (no_feed front refl)
    (All-append IsNoFeed (quoted name) (codes "}") (quoted_no_feed name) (no_feed (codes "}") refl)))

line_no_feed : (s : ℕ) (c : Command) → All IsNoFeed (compact_text (value_of s c))
line_no_feed s = by_name (λ c. All IsNoFeed (compact_text (value_of s c))) named_no_feed
    (λ c other. no_feed (compact_text (value_of s c)) (text_visible (value_of s c) (value_shown s c other)))

-- its numbers are whole
value_whole : (s : ℕ) (c : Command) → AreWhole (value_of s c)
value_whole s =
    by_name (λ c. AreWhole (value_of s c)) (λ name. (tt, (tt, tt))) (λ c other. shown_whole (value_of s c) (value_shown s c other))

value_read : (s : ℕ) (c : Command) → MayBeAsked s c → data_of (compact_text (value_of s c)) ≡ Some (value_of s c)
value_read s c h =
    let text = compact_text (value_of s c) in
    ap (λ b. cond b (read text) None) (line_utf8 s c h) ∙ read_back 6 (value_of s c) (omega arith) (value_plain s c h)

pub reads_back : ReadsBack
reads_back s c h = (accepts_values (line_text (record { session = s; command = c })) s c).1 (h, value_read s c h)

pub has_no_line_feed : HasNoLineFeed
has_no_line_feed ask = line_no_feed ask.session ask.command

pub was_asked : WasAsked
was_asked line ask e = ((accepts_values line ask.session ask.command).0 e).0

pub is_asked_again : IsAskedAgain
is_asked_again line ask e = reads_back ask.session ask.command (was_asked line ask e)

-- a text that is read at all is read as it stands
as_read : (b : Bool) (o : Option Data) (d : Data) → cond b o None ≡ Some d → o ≡ Some d
as_read true o d e = e
as_read false o d e = absurd (cc)

pub is_no_longer : IsNoLonger
is_no_longer line ask e =
    let value = value_of ask.session ask.command in
    no_longer line value (as_read (is_utf8 line) (read line) value ((accepts_values line ask.session ask.command).0 e).1)
    (value_whole ask.session ask.command)

pub acts_may_be_asked : ActsMayBeAsked
acts_may_be_asked = (
  λ s k a b h i. (h.0, record { key = h.1.key; list = h.1.list; instant = i }),
  λ s k a b h i. (h.0, record { key = h.1.key; list = h.1.list; instant = i }),
  λ s k a b h i. (h.0, record { key = h.1.key; list = h.1.list; instant = i }),
)

pub hello_may_be_asked : HelloMayBeAsked
hello_may_be_asked None ranges = refl
hello_may_be_asked (Some name) ranges = (refl, ranges)

-- The text of a key.
use Rattle.std.specs.Prelude.{ℕ, ◌&&◌, ◌||◌, ◌==◌, List, length, drop, slice_index, Bool, not, nat_lt, nat_le, nat_eq, if◌then◌else◌, Option, Some, None, option_map, ◌++◌, decimal, codes}
use Rattle.std.specs.Char.{is_ascii_digit}
use Rattle.std.specs.List.{starts_with, list_all}
use Rattle.std.specs.Str.{bytes_eq}
use Rattle.std.specs.Str.Parse.{digits_value}
use Rattle.tsn_types.specs.declared.keys.Key.{Key}
use Rattle.tsn_types.specs.declared.keys.Kind.{Kind}
use Rattle.tsn_types.specs.declared.keys.Kind.TheVariants.{Port, Filter, Gate, Meter}
use Rattle.tsn_types.specs.Keys.{kind, number_of}
use Rattle.tsn_records.specs.declared.drafts.KeyDraft.{KeyDraft}

-- one to ten decimal digits, with no 0 before another digit
abbrev pub is_decimal : List ℕ → Bool
is_decimal ds =
    list_all is_ascii_digit ds && (nat_lt 0 (length ds) && (nat_le (length ds) 10 && (length ds == 1 || not (slice_index ds 0 == 48))))

-- the number that such digits spell
abbrev pub decimal_of : List ℕ → Option ℕ
decimal_of ds = if is_decimal ds then Some (digits_value 10 ds) else None

-- the key of that kind, whose number is spelled so
abbrev pub numbered : Kind → List ℕ → Option KeyDraft
numbered kind ds = option_map (λ n. record { kind = kind; number = n }) (decimal_of ds)

-- `port N`, `filter N`, `gate N` or `meter N`
abbrev pub key_of : List ℕ → Option KeyDraft
key_of text =
    if starts_with nat_eq text (codes "port ") then numbered Port (drop 5 text)
    else if starts_with nat_eq text (codes "filter ") then numbered Filter (drop 7 text)
    else if starts_with nat_eq text (codes "gate ") then numbered Gate (drop 5 text)
    else if starts_with nat_eq text (codes "meter ") then numbered Meter (drop 6 text)
    else None

-- the name of a kind
abbrev pub kind_of : List ℕ → Option Kind
kind_of text =
    if bytes_eq text (codes "port") then Some Port
    else if bytes_eq text (codes "filter") then Some Filter
    else if bytes_eq text (codes "gate") then Some Gate
    else if bytes_eq text (codes "meter") then Some Meter
    else None

abbrev pub kind_text : Kind → List ℕ
kind_text Port = codes "port"
kind_text Filter = codes "filter"
kind_text Gate = codes "gate"
kind_text Meter = codes "meter"

-- its kind, one space and its number
abbrev pub spelled_key : Kind → ℕ → List ℕ
spelled_key Port n = codes "port " ++ decimal n
spelled_key Filter n = codes "filter " ++ decimal n
spelled_key Gate n = codes "gate " ++ decimal n
spelled_key Meter n = codes "meter " ++ decimal n

-- the text of a key
abbrev pub key_text : Key → List ℕ
key_text k = spelled_key (kind k) (number_of k)

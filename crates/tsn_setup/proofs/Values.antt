-- What is read of a value, and which tray it fills.
use Rattle.std.proofs.Common.{◌≡◌, ℕ, suc, ◌-◌, ◌<◌, ◌≤◌, ℤ, List, [], Bool, true, ◌==◌, length, drop, Some, Result, Ok, refl, ap, ◌∙◌, arith}
use Rattle.toml_parser.specs.Lexical.{first}
use Rattle.toml.specs.Data.{Data, integer, boolean, array}
use Rattle.toml.specs.Parse.{read_map, key_equals, val}
use Rattle.toml.proofs.Turns.{val_open_array, keyval_ok}
use Rattle.tsn_records.specs.Answers.{◌>>=◌, or_shape}
use Rattle.tsn_records.specs.declared.drafts.PortEntryDraft.{PortEntryDraft}
use Rattle.tsn_records.specs.declared.drafts.GateEntryDraft.{GateEntryDraft}
use Rattle.tsn_records.specs.declared.unread.Unread.{Unread}
use Rattle.tsn_records.specs.Records.{port_entry_shape, gate_entry_shape}
use Rattle.tsn_setup.specs.Toml.{natural, as_toml}
use Rattle.tsn_setup.specs.Plain.{Tray, number, flag, port_list, gate_list, Trays, tray_at, put_tray, list_given, IsOpen, Stands, ReadsValue, Fills, ReadsMember, ReadsEntries}

pub number_read : (n : ℕ) (z : ℤ) (text rest : List ℕ) → ((m : ℕ) → val m text ≡ Some (integer z, rest)) → natural z ≡ Some n
    → ReadsValue 0 text (number (Some n)) rest
number_read n z text rest reads is = record {
  value = integer z;
  reads = λ m low. reads m;
  stands = ap (λ o. or_shape o >>= (λ y. Ok (Some y))) is;
}

pub flag_read : (b : Bool) (text rest : List ℕ) → ((m : ℕ) → val m text ≡ Some (boolean b, rest)) → ReadsValue 0 text (flag (Some b)) rest
flag_read b text rest reads = record {
  value = boolean b;
  reads = λ m low. reads m;
  stands = refl;
}

-- an array of entries fills the tray of a list of them
list_read : {E : Type 0} (entry : Data → Result E Unread) (tray : Tray) (list : List E) (text rest : List ℕ)
    → ((d : Data) → list_given entry (Some d) ≡ Ok (Some list) → Stands tray (Some d)) → (first text == 91) ≡ true
    → length (drop 1 text) < length text → ReadsEntries entry (drop 1 text) list rest → ReadsValue 2 text tray rest
list_read entry tray list text rest stands opens shorter read = record {
  value = array read.found;
  reads = λ m low.
      let less : m - 1 ≡ suc (m - 2) = omega arith in
      val_open_array m text (omega arith) opens ∙ rw less (ap (read_map array) (read.reads (m - 2) (length text) shorter));
  stands = stands (array read.found) (ap (λ r. r >>= (λ es. Ok (Some es))) read.shaped);
}

pub port_list_read : (list : List PortEntryDraft) (text rest : List ℕ) → (first text == 91) ≡ true → length (drop 1 text) < length text
    → ReadsEntries (port_entry_shape as_toml) (drop 1 text) list rest → ReadsValue 2 text (port_list (Some list)) rest
port_list_read list text rest = list_read (port_entry_shape as_toml) (port_list (Some list)) list text rest (λ d h. h)

pub gate_list_read : (list : List GateEntryDraft) (text rest : List ℕ) → (first text == 91) ≡ true → length (drop 1 text) < length text
    → ReadsEntries (gate_entry_shape as_toml) (drop 1 text) list rest → ReadsValue 2 text (gate_list (Some list)) rest
gate_list_read list text rest = list_read (gate_entry_shape as_toml) (gate_list (Some list)) list text rest (λ d h. h)

-- a name and a value fill a tray
pub filled : (n : ℕ) (text name behind : List ℕ) (before after : Tray) (rest : List ℕ) → key_equals text ≡ Some (([], name), behind)
    → ReadsValue n behind after rest → IsOpen before → Fills n text name before after rest
filled n text name behind before after rest named read unread = record {
  value = read.value;
  reads = λ m low. keyval_ok (val m) text behind rest ([], name) read.value named (read.reads m low);
  empty = unread;
  full = read.stands;
}

-- what fills a tray is a member that may come
pub tray_filled : (m n : ℕ) (text name : List ℕ) (before after : Tray) (trays later : Trays) (rest : List ℕ) → m ≤ n
    → Fills m text name before after rest → tray_at name trays ≡ Some before → later ≡ put_tray name after trays
    → ReadsMember n text trays later rest
tray_filled m n text name before after trays later rest low f at put = record {
  name = name;
  value = f.value;
  tray = before;
  filled = after;
  reads = λ k high. f.reads k (omega (arith, low, high));
  known = at;
  empty = f.empty;
  full = f.full;
  put = put;
}

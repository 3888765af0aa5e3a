-- What each command has of a line's members.
use Rattle.std.proofs.Common.{◌≡◌, ℕ, List, true, Option, Some, option_map, ap}
use Rattle.std.specs.List.{AllByRecursion}
use Rattle.serde_json.specs.Data.{Data, boolean, string}
use Rattle.tsn_types.specs.declared.keys.Kind.{Kind}
use Rattle.tsn_records.specs.Keys.{kind_text}
use Rattle.tsn_records.specs.Shown.{draft_data, whole_data}
use Rattle.tsn_records.specs.declared.drafts.KeyDraft.{KeyDraft}
use Rattle.tsn_records.specs.declared.drafts.RecordDraft.{RecordDraft}
use Rattle.tsn_wire.specs.Batches.{is_batch_draft}
use Rattle.tsn_wire.specs.Lines.{edit_rows, line_rows, IsEdit, IsOf, IsLine, IsSoundEdit}
use Rattle.tsn_wire.specs.Spelled.{batch_value, key_value, IsKey}
use Rattle.tsn_wire.specs.Values.{MayHaveList, IsNoPort}
use Rattle.tsn_wire.specs.Words.{word_text}
use Rattle.tsn_wire.specs.declared.gathered.EditMembers.{EditMembers}
use Rattle.tsn_wire.specs.declared.gathered.LineMembers.{LineMembers}
use Rattle.tsn_wire.specs.declared.drafts.CommandDraft.TheVariants as wanted
use Rattle.tsn_wire.specs.declared.drafts.EditDraft.{EditDraft}
use Rattle.tsn_wire.specs.declared.drafts.EditDraft.TheVariants as drafts
use Rattle.tsn_wire.specs.declared.drafts.FrameDraft.{FrameDraft}
use Rattle.tsn_wire.specs.declared.drafts.LineDraft.TheVariants.{Hello, Session}
use Rattle.tsn_entries.specs.declared.entries.Act.{Act}
use Rattle.tsn_wire.specs.declared.words.Bare.{Bare}
use Rattle.tsn_wire.specs.declared.words.Look.{Look}
use Rattle.tsn_wire.specs.declared.words.Put.{Put}
use Rattle.tsn_wire.specs.declared.words.Word.{Word}
use Rattle.tsn_wire.specs.declared.words.Word.TheVariants as words

-- a row whose value was read
row_is : {A : Type 0} (value : A → Data) (o : Option A) (a : A) → o ≡ Some a → Some (option_map value o) ≡ Some (Some (value a))
row_is value o a is = ap (λ x. Some (option_map value x)) is

word_is : (o : Option Word) (w : Word) → o ≡ Some w → Some (option_map (λ v. string (word_text v)) o) ≡ Some (Some (string (word_text w)))
word_is o w is = row_is (λ v. string (word_text v)) o w is

word_row : (m : LineMembers) (w : Word) → m.word ≡ Some w
    → Some (option_map (λ v. string (word_text v)) m.word) ≡ Some (Some (string (word_text w)))
word_row m w is = word_is m.word w is

session_row : (m : LineMembers) (s : ℕ) → m.session ≡ Some s → Some (option_map whole_data m.session) ≡ Some (Some (whole_data s))
session_row m s is = row_is whole_data m.session s is

key_row : (m : LineMembers) (key : KeyDraft) → m.key ≡ Some key → Some (option_map key_value m.key) ≡ Some (Some (key_value key))
key_row m key is = row_is key_value m.key key is

pub bare_line : (m : LineMembers) (count s : ℕ) (bare : Bare) → m.word ≡ Some (words.Bare bare) → m.session ≡ Some s → count ≡ 2
    → IsLine (line_rows m) count (Session s (wanted.Bare bare))
bare_line m count s bare w e len = record { told = (word_row m (words.Bare bare) w, (session_row m s e, tt)); len = len; sound = tt }

pub put_line : (m : LineMembers) (count s : ℕ) (put : Put) (key : KeyDraft) (value : RecordDraft) → m.word ≡ Some (words.Put put)
    → m.session ≡ Some s → IsKey key → IsOf key.kind value → m.key ≡ Some key → m.record ≡ Some value → count ≡ 4
    → IsLine (line_rows m) count (Session s (wanted.Edit (drafts.Put put key value)))
put_line m count s put key value w e k r x y len = record {
  told = (word_row m (words.Put put) w, (key_row m key x, (row_is draft_data m.record value y, (session_row m s e, tt))));
  len = len;
  sound = (k, r);
}

pub batch_line : (m : LineMembers) (count s : ℕ) (batch : List EditDraft) → m.word ≡ Some words.Batch → m.session ≡ Some s
    → is_batch_draft batch ≡ true → AllByRecursion IsSoundEdit batch → m.edits ≡ Some batch → count ≡ 3
    → IsLine (line_rows m) count (Session s (wanted.Batch batch))
batch_line m count s batch w e is sound x len =
    record {
      told = (word_row m words.Batch w, (row_is batch_value m.edits batch x, (session_row m s e, tt)));
      len = len;
      sound = (is, sound);
    }

pub put_edit : (m : EditMembers) (count : ℕ) (put : Put) (key : KeyDraft) (value : RecordDraft) → m.word ≡ Some (words.Put put)
    → m.key ≡ Some key → m.record ≡ Some value → count ≡ 3 → IsEdit (edit_rows m) count (drafts.Put put key value)
put_edit m count put key value w x y len = record {
  told = (word_is m.word (words.Put put) w, (row_is key_value m.key key x, (row_is draft_data m.record value y, tt)));
  len = len;
}

pub remove_edit : (m : EditMembers) (count : ℕ) (key : KeyDraft) → m.word ≡ Some words.Remove → m.key ≡ Some key → count ≡ 2
    → IsEdit (edit_rows m) count (drafts.Remove key)
remove_edit m count key w x len = record {
  told = (word_is m.word words.Remove w, (row_is key_value m.key key x, tt));
  len = len;
}

pub remove_line : (m : LineMembers) (count s : ℕ) (key : KeyDraft) → m.word ≡ Some words.Remove → m.session ≡ Some s → IsKey key
    → IsNoPort key.kind → m.key ≡ Some key → count ≡ 3 → IsLine (line_rows m) count (Session s (wanted.Edit (drafts.Remove key)))
remove_line m count s key w e k r x len =
    record { told = (word_row m words.Remove w, (key_row m key x, (session_row m s e, tt))); len = len; sound = (k, r) }

pub look_line : (m : LineMembers) (count s : ℕ) (look : Look) (key : KeyDraft) → m.word ≡ Some (words.Look look) → m.session ≡ Some s
    → IsKey key → m.key ≡ Some key → count ≡ 3 → IsLine (line_rows m) count (Session s (wanted.Look look key))
look_line m count s look key w e k x len =
    record { told = (word_row m (words.Look look) w, (key_row m key x, (session_row m s e, tt))); len = len; sound = k }

pub act_line : (m : LineMembers) (count s : ℕ) (act : Act) (key : KeyDraft) (now : ℕ) → m.word ≡ Some (words.Act act)
    → m.session ≡ Some s → IsKey key → MayHaveList key.kind → m.key ≡ Some key → m.instant ≡ Some now → count ≡ 4
    → IsLine (line_rows m) count (Session s (wanted.Act act key now))
act_line m count s act key now w e k r x y len = record {
  told = (word_row m (words.Act act) w, (key_row m key x, (row_is whole_data m.instant now y, (session_row m s e, tt))));
  len = len;
  sound = (k, r);
}

pub states_line : (m : LineMembers) (count s : ℕ) (key : KeyDraft) (at : ℕ) → m.word ≡ Some words.States → m.session ≡ Some s → IsKey key
    → MayHaveList key.kind → m.key ≡ Some key → m.at ≡ Some at → count ≡ 4 → IsLine (line_rows m) count (Session s (wanted.States key at))
states_line m count s key at w e k r x y len =
    record {
      told = (row_is whole_data m.at at y, (word_row m words.States w, (key_row m key x, (session_row m s e, tt))));
      len = len;
      sound = (k, r);
    }

pub frame_line : (m : LineMembers) (count s : ℕ) (f : FrameDraft) (now : ℕ) → m.word ≡ Some words.Frame → m.session ≡ Some s
    → m.handle ≡ Some f.handle → m.priority ≡ Some f.priority → m.octets ≡ Some f.octets → m.yellow ≡ Some f.yellow
    → m.instant ≡ Some now → count ≡ 7 → IsLine (line_rows m) count (Session s (wanted.Frame f now))
frame_line m count s f now w e h p o y n len =
    record {
      told = (
        word_row m words.Frame w,
        (
          row_is whole_data m.handle f.handle h,
          (
            row_is whole_data m.instant now n,
            (
              row_is whole_data m.octets f.octets o,
              (row_is whole_data m.priority f.priority p, (session_row m s e, (row_is boolean m.yellow f.yellow y, tt))),
            ),
          ),
        ),
      );
      len = len;
      sound = tt;
    }

pub list_line : (m : LineMembers) (count s : ℕ) (kind : Kind) → m.word ≡ Some words.List → m.session ≡ Some s → m.kind ≡ Some kind
    → count ≡ 3 → IsLine (line_rows m) count (Session s (wanted.List kind))
list_line m count s kind w e x len =
    record {
      told = (word_row m words.List w, (row_is (λ k. string (kind_text k)) m.kind kind x, (session_row m s e, tt)));
      len = len;
      sound = tt;
    }

pub since_line : (m : LineMembers) (count s : ℕ) (after : ℕ) → m.word ≡ Some words.Since → m.session ≡ Some s → m.after ≡ Some after
    → count ≡ 3 → IsLine (line_rows m) count (Session s (wanted.Since after))
since_line m count s after w e x len =
    record { told = (row_is whole_data m.after after x, (word_row m words.Since w, (session_row m s e, tt))); len = len; sound = tt }

pub settle_line : (m : LineMembers) (count s : ℕ) (upto : ℕ) → m.word ≡ Some words.Settle → m.session ≡ Some s → m.upto ≡ Some upto
    → count ≡ 3 → IsLine (line_rows m) count (Session s (wanted.Settle upto))
settle_line m count s upto w e x len =
    record { told = (word_row m words.Settle w, (session_row m s e, (row_is whole_data m.upto upto x, tt))); len = len; sound = tt }

pub hello_line : (m : LineMembers) (count : ℕ) → m.word ≡ Some words.Hello → count ≡ 1 → IsLine (line_rows m) count Hello
hello_line m count w len = record { told = (word_row m words.Hello w, tt); len = len; sound = tt }

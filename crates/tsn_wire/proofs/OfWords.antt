-- What holds of each word of a command: its text is that of no other, and is spelled with no escape.
use Rattle.std.proofs.Common.{◌≡◌, true, Some, refl}
use Rattle.tsn_wire.specs.Lexed.{is_bare}
use Rattle.tsn_wire.specs.Words.{word_of, word_text}
use Rattle.tsn_entries.specs.declared.entries.Act.TheVariants as acts
use Rattle.tsn_wire.specs.declared.words.Bare.TheVariants as bares
use Rattle.tsn_wire.specs.declared.words.Look.TheVariants as looks
use Rattle.tsn_wire.specs.declared.words.Put.TheVariants as puts
use Rattle.tsn_wire.specs.declared.words.Word.{Word}
use Rattle.tsn_wire.specs.declared.words.Word.TheVariants as words
use Rattle.tsn_wire.proofs.Visible.{are_plain}

pub record OfWord (w : Word) : Type 0 where
  pub found : word_of (word_text w) ≡ Some w
  pub bare : is_bare (word_text w) ≡ true
  pub plain : are_plain (word_text w) ≡ true

pub of_word : (w : Word) → OfWord w
unfolding word_of
of_word (words.Put puts.Create) = record { found = refl; bare = refl; plain = refl }
of_word (words.Put put) = record { found = refl; bare = refl; plain = refl }
of_word (words.Act acts.Enable) = record { found = refl; bare = refl; plain = refl }
of_word (words.Act act) = record { found = refl; bare = refl; plain = refl }
of_word (words.Look looks.Counters) = record { found = refl; bare = refl; plain = refl }
of_word (words.Look look) = record { found = refl; bare = refl; plain = refl }
of_word (words.Bare bares.Undo) = record { found = refl; bare = refl; plain = refl }
of_word (words.Bare bare) = record { found = refl; bare = refl; plain = refl }
of_word w = record { found = refl; bare = refl; plain = refl }

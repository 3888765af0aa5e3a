-- How many items or members a value has.
use Rattle.std.proofs.Common.{◌≡◌, suc, List, [], ◌∷◌, length, Some, refl, ap, sym, String}
use Rattle.std.specs.declared.alloc.Global.{Global}
use Rattle.serde_json.specs.Data.{Data, array, object, Items, Members}
use Rattle.serde_json.specs.Find.{as_object, as_array}
use Rattle.serde_json.specs.View.{members_view, items_view}
use Rattle.serde_json.specs.declared.value.Value.{Value}
use Rattle.tsn_records.specs.Json.{item_count, member_count, items_len, members_len}

pub count_of_object : (d : Data) (ms : Members) → Some ms ≡ as_object d → member_count d ≡ members_len ms
count_of_object (object ns) ms e = let f : ms ≡ ns = cc in ap members_len (sym f)
count_of_object d ms e = cc

pub count_of_array : (d : Data) (xs : Items) → Some xs ≡ as_array d → item_count d ≡ items_len xs
count_of_array (array ys) xs e = let f : xs ≡ ys = cc in ap items_len (sym f)
count_of_array d xs e = cc

pub len_of_members : (es : List (String Global × Value)) → members_len (members_view es) ≡ length es
len_of_members [] = refl
len_of_members (e ∷ es) = ap suc (len_of_members es)

pub len_of_items : (es : List Value) → items_len (items_view es) ≡ length es
len_of_items [] = refl
len_of_items (e ∷ es) = ap suc (len_of_items es)

use Rattle.tsn_chain.proofs.Keys.{keys_act, keys_apply, keys_begin, keys_fit, keys_follow}
use Rattle.tsn_chain.proofs.FirstRows.{begun_fresh, begun_keys}
use Rattle.tsn_chain.proofs.laws.keys.Goals as goal

pub returns : goal.returns
returns c = record {
  beginning = keys_begin;
  following = keys_follow;
  fitting = keys_fit;
  acting = keys_act;
  applying = keys_apply;
  begun = λ l d kept. (begun_keys d l kept, begun_fresh d);
}

use Rattle.std.proofs.Common.{arith}
use Rattle.placement.proofs.Spots.{entry_of, goes_there, only_one}
use Rattle.placement.proofs.interleaver.interleaver_is_a_permutation.Goals as goal

pub returns : goal.returns
returns c = record {
  law = record {
    inside = λ k h. omega arith;
    one_each = λ o h. (entry_of o, omega arith, goes_there o h, λ k l e. only_one o k h l e);
  };
}

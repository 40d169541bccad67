use Rattle.bx_search.proofs.Values.{search-solves}
use Rattle.bx_search.proofs.laws.the_bits_of_a_search_solve.Goals as goal

pub returns : goal.returns
returns c = record {
  each_has = λ formula budget count bits formed found. (search-solves formula budget count bits formed found).0;
  all_true = λ formula budget count bits formed found. (search-solves formula budget count bits formed found).1;
}

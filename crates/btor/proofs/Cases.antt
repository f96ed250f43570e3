-- The cases on operators, and those against laws that are none, by computation.
-- Assumes nothing.
use Rattle.std.proofs.Common.{refl}
use Rattle.btor.specs.Operators.{Reading, compute, signed_div, complement}
use Rattle.btor.specs.Cases.{OperatorCases, NoLaws}

pub operator_cases : OperatorCases
unfolding compute signed_div complement
operator_cases =
    record {
      add = refl;
      sub = refl;
      mul = refl;
      div = refl;
      div-by-zero = refl;
      div_least = refl;
      rem-by-zero = refl;
      sll_63 = refl;
      sll_64 = refl;
      ult_at_equality = refl;
      byte_not = refl;
      byte_and = refl;
    }

pub no-laws : (how : Reading) → NoLaws how
unfolding compute signed_div
no-laws how =
    record {
      sll_by_add = (refl, refl);
      srl_by_add = (refl, refl);
      srl_undoes_sll = refl;
      sll_undoes_srl = refl;
      srl_over_add = (refl, refl);
      srl_as_divu_far = (refl, refl);
      srl_as_div = (refl, refl);
      divu_undoes_mul = refl;
      div_rejoined = refl;
      rem_of_sum = (refl, refl);
      ult_of_sums = (refl, refl);
      ult_of_difference = (refl, refl);
    }

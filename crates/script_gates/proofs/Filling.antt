-- A gate that was split.
use Rattle.std.proofs.Common.{◌≡◌, ℕ, Bool, List, length, ◌∙◌, arith}
use Rattle.fields.specs.declared.scalar.Scalar.{Scalar}
use Rattle.fields.specs.Scalars.{scalars_model}
use Rattle.splits.specs.Gates.{Balanced, Agree}
use Rattle.splits.specs.Marks.{missing}
use Rattle.script_gates.specs.GateReplies.{Takes, Filled}

-- the children that were taken, cs, and those that a split made of them, ds
pub filled_by : (q : ℕ) (own : Scalar) (marks : List Bool) (ns : List ℕ) (cs ds : List Scalar) → Takes q ns cs → length marks ≡ length ns
    → length ds ≡ length cs → Balanced (scalars_model q) (missing marks) own ds → Agree (scalars_model q) marks ds cs → Filled q own marks ns ds
filled_by q own marks ns cs ds took all same balanced kept = record {
  long = same ∙ took.0;
  balanced = balanced;
  kept = λ j h t. kept j h t ∙ (took.1 j (omega arith)).0;
}

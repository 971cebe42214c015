-- The figures together.
use Rattle.std.proofs.Common.{[], ◌∷◌, refl}
use Rattle.refusals.specs.declared.Refusal.TheVariants.{UnfitWord, Unbalanced, EquationFails}
use Rattle.groups.specs.Monoids.{power}
use Rattle.releases.specs.Calls.{fresh}
use Rattle.figures.specs.Figures.{Powers, Images, words, to_seven, to_nine, first_key, second_key, simulating, answering, forking, refusing, used, filled, FiguresStand}
use Rattle.figures.proofs.Entered.{table_read, ring_read, setting}
use Rattle.figures.proofs.Computed.{balanced_seven, balanced_three, eight_alone, eight_and_three}
use Rattle.figures.proofs.Told.{simulates, second_answers, first_answers, second_answers_nine, forks, unfit_word, unbalanced_gate, failing_equation}
use Rattle.figures.proofs.Alone.{alone}

powers : Powers
unfolding power
powers = record { residue_power = refl; circle_power = refl }

images : Images
unfolding power
images = record { twin_residues = refl; mixed_circle = refl }

pub figures_stand : FiguresStand
figures_stand = (
  powers,
  images,
  record { one_of_two = (balanced_seven, eight_alone); two_of_three = (balanced_three, eight_and_three) },
  record { table = table_read; ring_read = ring_read; keys_found = refl; paired_rule = refl; setting = setting; tape_length = refl },
  record {
    simulated = alone (simulating (2 ∷ 5 ∷ 6 ∷ []) 7 to_seven) fresh simulates;
    by_second_key = alone (answering second_key (2 ∷ 5 ∷ 7 ∷ []) 7 to_seven) used second_answers;
    by_first_key = alone (answering first_key (8 ∷ 10 ∷ 6 ∷ []) 7 to_seven) used first_answers;
    other_challenge = alone (answering second_key (2 ∷ 5 ∷ 7 ∷ []) 9 to_nine) used second_answers_nine;
    forked = alone forking filled forks;
  },
  record {
    no_scalar = record { reply = alone (refusing (words 11 2 8 5 6) (UnfitWord 0)) fresh unfit_word; number_told = refl; place_told = refl };
    unbalanced = record { reply = alone (refusing (words 7 2 9 5 6) (Unbalanced 0)) fresh unbalanced_gate; number_told = refl; place_told = refl };
    wrong_response = record { reply = alone (refusing (words 7 2 8 4 6) (EquationFails 0)) fresh failing_equation; number_told = refl; place_told = refl };
  },
)

use Rattle.std.proofs.Common.{rules, ◌≡◌, ◌%◌, ◌≢◌, arith, tests, refl}
use Rattle.std.proofs.lemmas.Iterator.{cases_from_all, YieldsList-from_range}
use Rattle.fields.proofs.Primality.{prime_by_trial}
use Rattle.fields.proofs.scalars.is_prime.Goals as goal

pub returns : goal.returns
returns c =
    let n = c.args.q in
    prime_by_trial n c.isqrt.result _ c.all.result c.requires c.isqrt.ensures.square_le c.isqrt.ensures.next_square_gt (omega arith)
    (cases_from_all _ _ c.all.result (λ d. n % d ≢ 0) (λ d. n % d ≡ 0) c.all.ensures.ran (YieldsList-from_range 2 _ _ refl refl) (λ x q h. search (rules, tests)) (λ x q h. search (rules, tests)))

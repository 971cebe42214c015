-- What is spelt by so many words each, as the lists of a transcript are.
use Rattle.std.proofs.Common.{◌≡◌, ℕ, zero, suc, ◌+◌, ◌-◌, ◌*◌, ◌≤◌, List, [], ◌∷◌, ◌++◌, map, length, take, drop, sym, refl, ap, ◌∙◌, arith}
use Rattle.std.specs.List.{between}
use Rattle.std.specs.Simd.{first_chunks}
use Rattle.std.proofs.lemmas.List.{get_or-take, drop-drop}
use Rattle.fields.specs.Scalars.{scalar}
use Rattle.releases.specs.Transcripts.{images_in, keys_in}
use Rattle.transcripts.specs.Spellings.{scalar_of, pair_of, image_of}

part : {X : Type 0} (w i : ℕ) (ws : List X) → between i (i + w) ws ≡ take w (drop i ws)
part w i ws = let e : i + w - i ≡ w = omega arith in ap (λ k. take k (drop i ws)) e

pub chunks_more : {X : Type 0} (w n : ℕ) (ws : List X) → first_chunks w (n + 1) ws ≡ first_chunks w n ws ++ between (w * n) (w * n + w) ws ∷ []
chunks_more w zero ws =
    let e : 0 ≡ w * 0 = omega arith in
    ap (λ x. x ∷ []) (ap (λ k. take w (drop k ws)) e ∙ sym (part w (w * 0) ws))
chunks_more w (suc n) ws =
    let e : suc n + 1 ≡ suc (n + 1) = omega arith in
    let f : w + w * n ≡ w * suc n = omega arith in
    ap (λ k. first_chunks w k ws) e
    ∙ ap (λ r. take w ws ∷ r) (chunks_more w n (drop w ws) ∙ ap (λ x. first_chunks w n (drop w ws) ++ x ∷ [])
    (part w (w * n) (drop w ws) ∙ ap (take w) (drop-drop (w * n) w ws ∙ ap (λ k. drop k ws) f) ∙ sym (part w (w * suc n) ws)))

pub scalars_read : (n : ℕ) (ws : List ℕ) → n ≤ length ws → map scalar_of (first_chunks 1 n ws) ≡ map scalar (take n ws)
scalars_read zero ws l = refl
scalars_read (suc n) [] l = absurd (omega arith)
scalars_read (suc n) (w ∷ ws) l = ap (λ r. scalar w ∷ r) (scalars_read n ws (omega arith))

pub images_read : (n : ℕ) (ws : List ℕ) → map image_of (first_chunks 4 n ws) ≡ images_in n ws
images_read zero ws = refl
images_read (suc n) ws = grind (arith, get_or-take, images_read n (drop 4 ws))

pub pairs_read : (n : ℕ) (ws : List ℕ) → map pair_of (first_chunks 2 n ws) ≡ keys_in n ws
pairs_read zero ws = refl
pairs_read (suc n) ws = grind (arith, get_or-take, pairs_read n (drop 2 ws))

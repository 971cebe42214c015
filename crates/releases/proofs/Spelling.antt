-- Words and transcripts: parsing and spelling undo each other.
use Rattle.std.proofs.Common.{◌≡◌, ℕ, zero, suc, ◌+◌, ◌*◌, ◌≤◌, List, [], ◌∷◌, ◌++◌, map, length, take, drop, sym, refl, ap, ◌∙◌, arith, length-append, length-drop, take-append-drop, length-take-le, drop-drop, take_at, drop_at}
use lib.ListN.{length-map}
use Rattle.fields.specs.Scalars.{scalar}
use Rattle.fields.specs.declared.scalar.Scalar.{Scalar}
use Rattle.kinds.specs.Kinds.{Key}
use Rattle.kinds.specs.declared.image.Image.{Image}
use Rattle.releases.specs.Entries.{Entry, leaves}
use Rattle.releases.specs.Transcripts.{Transcript, Shaped, image_words, key_words, spelt, images_in, keys_in, parsed}
use Rattle.releases.specs.Theorems.{Words}

abbrev number_of : Scalar → ℕ
number_of c = c.0

numbers : (ws : List ℕ) → map number_of (map scalar ws) ≡ ws
numbers [] = refl
numbers (w ∷ ws) = ap (λ r. w ∷ r) (numbers ws)

scalars : (cs : List Scalar) → map scalar (map number_of cs) ≡ cs
scalars [] = refl
scalars (c ∷ cs) = ap (λ r. c ∷ r) (scalars cs)

images_long : (n : ℕ) (ws : List ℕ) → length (images_in n ws) ≡ n
images_long zero ws = refl
images_long (suc n) ws = ap suc (images_long n (drop 4 ws))

keys_long : (n : ℕ) (ws : List ℕ) → length (keys_in n ws) ≡ n
keys_long zero ws = refl
keys_long (suc n) ws = ap suc (keys_long n (drop 2 ws))

pub image_words_long : (xs : List Image) → length (image_words xs) ≡ 4 * length xs
image_words_long [] = refl
image_words_long (x ∷ xs) = let r = image_words_long xs in omega arith

pub key_words_long : (xs : List Key) → length (key_words xs) ≡ 2 * length xs
key_words_long [] = refl
key_words_long (x ∷ xs) = let r = key_words_long xs in omega arith

pub images_back : (xs : List Image) (more : List ℕ) → images_in (length xs) (image_words xs ++ more) ≡ xs
images_back [] more = refl
images_back (x ∷ xs) more = ap (λ r. x ∷ r) (images_back xs more)

keys_back : (xs : List Key) → keys_in (length xs) (key_words xs) ≡ xs
keys_back [] = refl
keys_back (x ∷ xs) = ap (λ r. x ∷ r) (keys_back xs)

images_forth : (n : ℕ) (ws : List ℕ) → 4 * n ≤ length ws → image_words (images_in n ws) ++ drop (4 * n) ws ≡ ws
images_forth zero ws l = let e : 4 * 0 ≡ 0 = omega arith in ap (λ k. drop k ws) e
images_forth (suc n) [] l = absurd (omega arith)
images_forth (suc n) (a ∷ []) l = absurd (omega arith)
images_forth (suc n) (a ∷ b ∷ []) l = absurd (omega arith)
images_forth (suc n) (a ∷ b ∷ c ∷ []) l = absurd (omega arith)
images_forth (suc n) (a ∷ b ∷ c ∷ d ∷ ws) l =
    let e : 4 * suc n ≡ suc (suc (suc (suc (4 * n)))) = omega arith in
    ap (λ k. a ∷ b ∷ c ∷ d ∷ (image_words (images_in n ws) ++ drop k (a ∷ b ∷ c ∷ d ∷ ws))) e
    ∙ ap (λ r. a ∷ b ∷ c ∷ d ∷ r) (images_forth n ws (omega arith))

keys_forth : (n : ℕ) (ws : List ℕ) → length ws ≡ 2 * n → key_words (keys_in n ws) ≡ ws
keys_forth zero [] l = refl
keys_forth zero (a ∷ ws) l = absurd (omega arith)
keys_forth (suc n) [] l = absurd (omega arith)
keys_forth (suc n) (a ∷ []) l = absurd (omega arith)
keys_forth (suc n) (a ∷ b ∷ ws) l = ap (λ r. a ∷ b ∷ r) (keys_forth n ws (omega arith))

module _ (rule : List Entry) where
  pub shaped_parsed : (ws : List ℕ) → length ws ≡ length rule + 6 * leaves rule → Shaped rule (parsed rule ws)
  shaped_parsed ws e = record {
    challenges = length-map (take (length rule) ws) scalar ∙ length-take-le (length rule) ws (omega arith);
    commitments = images_long (leaves rule) (drop (length rule) ws);
    responses = keys_long (leaves rule) (drop (length rule + 4 * leaves rule) ws);
  }

  spelt_parsed : (ws : List ℕ) → length ws ≡ length rule + 6 * leaves rule → spelt (parsed rule ws) ≡ ws
  spelt_parsed ws e =
      let N = length rule in
      let L = leaves rule in
      let u = drop N ws in
      let u-long = length-drop N ws in
      ap (λ r. r ++ (image_words (images_in L u) ++ key_words (keys_in L (drop (N + 4 * L) ws)))) (numbers (take N ws))
      ∙ ap (λ r. take N ws ++ (image_words (images_in L u) ++ r))
      (keys_forth L (drop (N + 4 * L) ws) (length-drop (N + 4 * L) ws ∙ (omega arith)) ∙ sym (drop-drop (4 * L) N ws))
      ∙ ap (λ r. take N ws ++ r) (images_forth L u (omega arith)) ∙ take-append-drop N ws

  module _ (t : Transcript) (sh : Shaped rule t) where
    abbrev front : List ℕ
    front = map number_of t.challenges

    abbrev rest : List ℕ
    rest = image_words t.commitments ++ key_words t.responses

    front_long : length front ≡ length rule
    front_long = length-map t.challenges number_of ∙ sh.challenges

    spelt_long : length (spelt t) ≡ length rule + 6 * leaves rule
    spelt_long =
        let a = front_long in
        let b = image_words_long t.commitments in
        let c = key_words_long t.responses in
        let d = sh.commitments in
        let e = sh.responses in
        let f = length-append front rest in
        let g = length-append (image_words t.commitments) (key_words t.responses) in
        omega arith

    parsed_spelt : parsed rule (spelt t) ≡ t
    parsed_spelt =
        λ i. record { challenges = one i; commitments = two i; responses = three i }
      where
        one : map scalar (take (length rule) (spelt t)) ≡ t.challenges
        one = ap (map scalar) (take_at front rest (length rule) front_long) ∙ scalars t.challenges

        two : images_in (leaves rule) (drop (length rule) (spelt t)) ≡ t.commitments
        two =
            ap (images_in (leaves rule)) (drop_at front rest (length rule) front_long)
            ∙ ap (λ n. images_in n rest) (sym sh.commitments) ∙ images_back t.commitments (key_words t.responses)

        three : keys_in (leaves rule) (drop (length rule + 4 * leaves rule) (spelt t)) ≡ t.responses
        three =
            ap (keys_in (leaves rule))
            (sym (drop-drop (4 * leaves rule) (length rule) (spelt t)) ∙ ap (drop (4 * leaves rule)) (drop_at front rest (length rule) front_long)
            ∙ drop_at (image_words t.commitments) (key_words t.responses) (4 * leaves rule) (image_words_long t.commitments ∙ ap (λ n. 4 * n) sh.commitments))
            ∙ ap (λ n. keys_in n (key_words t.responses)) (sym sh.responses) ∙ keys_back t.responses

pub words : Words
words rule = (λ t sh. (spelt_long rule t sh, parsed_spelt rule t sh), λ ws e. (shaped_parsed rule ws e, spelt_parsed rule ws e))

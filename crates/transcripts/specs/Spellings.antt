-- One challenge, one response or one commitment as the words that spell it.
--   scalar_words c, scalar_of ws    a scalar as its word, and the scalar that a word spells
--   pair_words k, pair_of ws        a pair of scalars as two words, and back
--   four_words x, image_of ws       an image as four words, and back
use Rattle.std.specs.Prelude.{ℕ, List, [], ◌∷◌, slice_index}
use Rattle.fields.specs.Scalars.{scalar}
use Rattle.fields.specs.declared.scalar.Scalar.{Scalar}
use Rattle.kinds.specs.Kinds.{Key}
use Rattle.kinds.specs.declared.image.Image.{Image}

abbrev pub scalar_words : Scalar → List ℕ
scalar_words c = c.0 ∷ []

abbrev pub scalar_of : List ℕ → Scalar
scalar_of ws = scalar (slice_index ws 0)

abbrev pub pair_words : Key → List ℕ
pair_words k = k.0.0 ∷ k.1.0 ∷ []

abbrev pub pair_of : List ℕ → Key
pair_of ws = (scalar (slice_index ws 0), scalar (slice_index ws 1))

abbrev pub four_words : Image → List ℕ
four_words x = x.0.0 ∷ x.0.1 ∷ x.1.0 ∷ x.1.1 ∷ []

abbrev pub image_of : List ℕ → Image
image_of ws = record { 0 = (slice_index ws 0, slice_index ws 1); 1 = (slice_index ws 2, slice_index ws 3) }

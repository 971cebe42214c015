-- Rules, their texts and their limits.
--   Rule, Rules           a key with its number, or a gate that wants so many of its items; the items of a gate
--   count                 how many items
--   decimal               a number below 1000 in digits
--   opening k n           how a gate that wants k of n items begins: 'any', 'all', or a digit and 'of'
--   text                  the bytes of a rule
--   marked rs mark        items, each after its mark: the first after this one, the others after ','
--   keys, depth           how many keys a rule has; how deep it goes, its outermost item being 1 deep
--   Formed                key numbers from 1 to 255; gates of 2 to 8 items that want from one of them to all
--   Legal                 formed, and within the limits: 240 bytes, 16 keys, 8 deep
-- Bytes stand by their numbers: ( 40, ) 41, the comma 44, the digits 48 to 57, K 75, a 97, f 102, l 108, n 110, o 111, y 121.
use Rattle.std.specs.Prelude.{ℕ, suc, ◌+◌, ◌/◌, ◌%◌, ◌≤◌, max, cond, List, [], ◌∷◌, ◌++◌, length, ◌==◌, nat_lt}

mutual
  pub data Rule : Type 0 where
    key : ℕ → Rule
    gate : ℕ → Rules → Rule

  pub data Rules : Type 0 where
    none : Rules
    more : Rule → Rules → Rules

abbrev pub count : Rules → ℕ
count none = 0
count (more r rs) = suc (count rs)

unfoldable pub decimal : ℕ → List ℕ
decimal n =
    cond (nat_lt n 10) ((48 + n) ∷ [])
    (cond (nat_lt n 100) ((48 + n / 10) ∷ (48 + n % 10) ∷ [])
    ((48 + n / 100) ∷ (48 + n / 10 % 10) ∷ (48 + n % 10) ∷ []))

unfoldable pub opening : ℕ → ℕ → List ℕ
opening k n =
    cond (k == 1) (97 ∷ 110 ∷ 121 ∷ [])
    (cond (k == n) (97 ∷ 108 ∷ 108 ∷ [])
    ((48 + k) ∷ 111 ∷ 102 ∷ []))

abbrev mutual
  pub text : Rule → List ℕ
  text (key n) = 75 ∷ decimal n
  text (gate k rs) = opening k (count rs) ++ (marked rs 40 ++ 41 ∷ [])

  pub marked : Rules → ℕ → List ℕ
  marked none mark = []
  marked (more r rs) mark = mark ∷ (text r ++ marked rs 44)

abbrev mutual
  pub keys : Rule → ℕ
  keys (key n) = 1
  keys (gate k rs) = keys_of rs

  pub keys_of : Rules → ℕ
  keys_of none = 0
  keys_of (more r rs) = keys r + keys_of rs

abbrev mutual
  pub depth : Rule → ℕ
  depth (key n) = 1
  depth (gate k rs) = suc (depth_of rs)

  pub depth_of : Rules → ℕ
  depth_of none = 0
  depth_of (more r rs) = max (depth r) (depth_of rs)

abbrev mutual
  pub Formed : Rule → Type 0
  Formed (key n) = (1 ≤ n) × (n ≤ 255)
  Formed (gate k rs) = (1 ≤ k) × (k ≤ count rs) × (2 ≤ count rs) × (count rs ≤ 8) × FormedAll rs

  pub FormedAll : Rules → Type 0
  FormedAll none = Unit {0}
  FormedAll (more r rs) = Formed r × FormedAll rs

pub record Legal (r : Rule) : Type 0 where
  pub formed : Formed r
  pub deep : depth r ≤ 8
  pub few : keys r ≤ 16
  pub short : length (text r) ≤ 240

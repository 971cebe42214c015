-- The number and the place of each refusal.
--   parameter_place, base_place   the place of a group's parameter, counted from 1 in the order q, p, g, h
--   number_of                     the number that a caller is told
--   place_of                      where the fault is: a parameter; in a rule's text the byte, in a ring the line, in a list of keys the leaf,
--                                 in a tape or a transcript the word, in a rule the entry, each counted from 0; a length; a slot
use Rattle.std.specs.Prelude.{ℕ}
use Rattle.refusals.specs.declared.Parameter.{Parameter}
use Rattle.refusals.specs.declared.Parameter.TheVariants.{Order, Modulus}
use Rattle.refusals.specs.declared.Base.{Base}
use Rattle.refusals.specs.declared.Base.TheVariants.{First, Second}
use Rattle.refusals.specs.declared.Refusal.{Refusal}
use Rattle.refusals.specs.declared.Refusal.TheVariants.{OutOfRange, NotListed, NotPrime, NoSuchGroup, UnfitBase, OrdersDiffer, TooManyKinds, TextLength, Unexpected, KeyNumber, GateDigit, TooDeep, TooManyKeys, TooManyItems, TooFewItems, NotInRing, RingLength, NotRising, NoImage, OutputLength, KeyCount, NoKey, Unopened, Unsatisfied, TapeLength, NoScalar, ChallengeRange, NotHeld, CountFull, TranscriptLength, UnfitWord, Unbalanced, EquationFails, SlotFilled, NoSlot, SlotEmpty, CommitmentsDiffer, ChallengesEqual}

abbrev pub parameter_place : Parameter → ℕ
parameter_place Order = 1
parameter_place Modulus = 2

abbrev pub base_place : Base → ℕ
base_place First = 3
base_place Second = 4

abbrev pub number_of : Refusal → ℕ
number_of (OutOfRange x) = 1
number_of (NotListed x) = 2
number_of NotPrime = 2
number_of NoSuchGroup = 3
number_of (UnfitBase x) = 4
number_of OrdersDiffer = 5
number_of TooManyKinds = 5
number_of TextLength = 6
number_of (Unexpected byte) = 7
number_of (KeyNumber byte) = 8
number_of (GateDigit byte) = 8
number_of (TooDeep byte) = 9
number_of (TooManyKeys byte) = 9
number_of (TooManyItems byte) = 9
number_of (TooFewItems byte) = 9
number_of (NotInRing byte) = 10
number_of RingLength = 11
number_of (NotRising line) = 12
number_of (NoImage line) = 13
number_of OutputLength = 21
number_of (KeyCount length) = 14
number_of (NoKey leaf) = 14
number_of (Unopened leaf) = 15
number_of Unsatisfied = 16
number_of (TapeLength length) = 17
number_of (NoScalar index) = 17
number_of ChallengeRange = 18
number_of NotHeld = 19
number_of CountFull = 20
number_of TranscriptLength = 22
number_of (UnfitWord word) = 23
number_of (Unbalanced entry) = 24
number_of (EquationFails leaf) = 25
number_of (SlotFilled slot) = 26
number_of (NoSlot slot) = 27
number_of (SlotEmpty slot) = 27
number_of (CommitmentsDiffer leaf) = 28
number_of ChallengesEqual = 29

abbrev pub place_of : Refusal → ℕ
place_of (OutOfRange x) = parameter_place x
place_of (NotListed x) = parameter_place x
place_of NotPrime = 1
place_of NoSuchGroup = 2
place_of (UnfitBase x) = base_place x
place_of OrdersDiffer = 1
place_of TooManyKinds = 2
place_of TextLength = 0
place_of (Unexpected byte) = byte
place_of (KeyNumber byte) = byte
place_of (GateDigit byte) = byte
place_of (TooDeep byte) = byte
place_of (TooManyKeys byte) = byte
place_of (TooManyItems byte) = byte
place_of (TooFewItems byte) = byte
place_of (NotInRing byte) = byte
place_of RingLength = 0
place_of (NotRising line) = line
place_of (NoImage line) = line
place_of OutputLength = 0
place_of (KeyCount length) = length
place_of (NoKey leaf) = leaf
place_of (Unopened leaf) = leaf
place_of Unsatisfied = 0
place_of (TapeLength length) = length
place_of (NoScalar index) = index
place_of ChallengeRange = 0
place_of NotHeld = 0
place_of CountFull = 0
place_of TranscriptLength = 0
place_of (UnfitWord word) = word
place_of (Unbalanced entry) = entry
place_of (EquationFails leaf) = leaf
place_of (SlotFilled slot) = slot
place_of (NoSlot slot) = slot
place_of (SlotEmpty slot) = slot
place_of (CommitmentsDiffer leaf) = leaf
place_of ChallengesEqual = 0

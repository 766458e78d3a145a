-- The numbers of the refusals (the scope document, "What the calls refuse"; 14 is change request K6), their texts, and what a call that may be
-- refused answers: a number, 0 where it is accepted, and a value. Where it is refused that is of zero bits or, of a generator handed in, as it was.
use Rattle.std.specs.Prelude.{ℕ, List, codes, Ok, Err, Result}
use Rattle.base.specs.declared.refusal.Refusal.{Refusal}
use Rattle.base.specs.declared.refusal.Refusal.TheVariants.{FormLength, FormMark, ZeroState, UnknownKind, OutputLength, NoSuchLane, LnDomain, TurnsDomain, SqrtDomain, BoxMullerDomain, OtherWords}

abbrev pub number_of : Refusal → ℕ
number_of FormLength = 1
number_of FormMark = 2
number_of ZeroState = 3
number_of UnknownKind = 4
number_of OutputLength = 5
number_of NoSuchLane = 6
number_of LnDomain = 7
number_of TurnsDomain = 8
number_of SqrtDomain = 9
number_of BoxMullerDomain = 10
number_of OtherWords = 14

-- what is written of a refusal
abbrev pub reason_of : Refusal → List ℕ
reason_of FormLength = codes "a saved form of another length"
reason_of FormMark = codes "a saved form with no such mark, or with words that don't wait"
reason_of ZeroState = codes "a state of four zero words"
reason_of UnknownKind = codes "no kind has this number"
reason_of OutputLength = codes "a length that isn't a multiple of the kind's width"
reason_of NoSuchLane = codes "a lane's number of 8 or more"
reason_of LnDomain = codes "an argument of ln that isn't a positive normal"
reason_of TurnsDomain = codes "a turn that is a NaN or too large"
reason_of SqrtDomain = codes "an argument of sqrt that is neither a positive normal nor a zero"
reason_of BoxMullerDomain = codes "a u1 that isn't normal in (0, 1], or a u2 that isn't in [0, 1)"
reason_of OtherWords = codes "words that wait and aren't the upper words of their group"

-- an answer with a value of type V
pub record Answer (V : Type 0) : Type 0 where
  pub refusal : ℕ
  pub value : V

-- what a result answers, where `blank` is the value of a refused call
abbrev pub answer_of : {V : Type 0} → V → Result V Refusal → Answer V
answer_of blank (Ok x) = record { refusal = 0; value = x }
answer_of blank (Err e) = record { refusal = number_of e; value = blank }

-- the number of a result's refusal, 0 where it has none
abbrev pub refusal_in : {V : Type 0} → Result V Refusal → ℕ
refusal_in (Ok x) = 0
refusal_in (Err e) = number_of e

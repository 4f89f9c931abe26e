-- A base that comes in pieces: what was fed.
use Rattle.std.specs.Prelude.{IfSome, MatchOption}
use Rattle.std.proofs.Common.{◌≡◌, ◌+◌, ◌≤◌, ℕ, List, ◌++◌, length, Option, Some, None, Result, Ok, Err, refl, sym, ◌∙◌, subst, arith}
use Rattle.std.specs.Option.{option_map_or}
use Rattle.datasets.specs.Dataset.{Dataset}
use Rattle.terms.specs.declared.term.Term.{Term}
use Rattle.nquads.specs.declared.fault.BaseFault.{BaseFault}
use Rattle.nquads.specs.declared.fault.BaseFault.TheVariants as fault
use Rattle.nquads.specs.declared.feed.Feed.{Feed}
use Rattle.nquads.specs.declared.kept.Kept.{Kept}
use Rattle.nquads.specs.Long.{IsAnswer}
use Rattle.nquads.specs.Fed.{Fed, Takes, AnswersPiece, AnswersAll, fed_with, lasting, NoneIsBad, Stops}
use Rattle.nquads.specs.Feeding.{IsFed, IsSame, Keeps}
use Rattle.nquads.proofs.KeptLaws.{kept_good, kept_length, kept_same, known_within}
use Rattle.nquads.proofs.ToldLaws.{stops_longer, stops_answered}

-- ---- a piece

free_before : (limit : ℕ) (before : Fed) (old : Feed) → old.fault ≡ None → IsFed limit before old → before.told ≡ None
free_before limit before old free is = sym is.fault ∙ free

-- what is answered where no fault was told
if_free : {A : Type 0} (limit : ℕ) (before : Fed) (piece : List ℕ) (result : Result A BaseFault) → before.told ≡ None → Takes limit (before.bytes ++ piece) result → AnswersPiece limit before piece result
if_free {A} limit before piece result going takes = subst (λ o. MatchOption o (Takes limit (before.bytes ++ piece) result) (λ f. result ≡ Err f)) (sym going) takes

-- a piece was taken in
pub taken_answer : {A : Type 0} (x : A) (limit : ℕ) (before : Fed) (piece : List ℕ) (old : Feed) (new : Kept) → old.fault ≡ None → ((bytes : List ℕ) → Keeps bytes old.kept → Keeps (bytes ++ piece) new)
    → new.len + length new.rest.items ≤ old.limit → IsFed limit before old → AnswersPiece limit before piece (Ok x)
taken_answer x limit before piece old new free step within is =
    let going : before.told ≡ None = free_before limit before old free is in
    let all : List ℕ = before.bytes ++ piece in
    let kept : Keeps all new = step before.bytes (is.kept going) in
    let long : length all ≡ new.len + length new.rest.items = kept_length all new kept in
    let most : old.limit ≡ limit = is.most in
    let few : length all ≤ limit = omega arith in
    if_free limit before piece (Ok x) going (few, subst NoneIsBad (sym (known_within limit all few)) (kept_good all new kept))

pub taken_fed : {A : Type 0} (x : A) (limit : ℕ) (before : Fed) (piece : List ℕ) (old new : Feed) → old.fault ≡ None → new.limit ≡ old.limit → new.fault ≡ old.fault
    → ((bytes : List ℕ) → Keeps bytes old.kept → Keeps (bytes ++ piece) new.kept) → IsFed limit before old → IsFed limit (fed_with {A = A} before piece (Ok x)) new
taken_fed x limit before piece old new free most same step is =
    let going : before.told ≡ None = free_before limit before old free is in
    record {
      most = most ∙ is.most;
      fault = same ∙ is.fault;
      kept = λ h. step before.bytes (is.kept going);
      why = subst (λ o. IfSome o (Stops limit (before.bytes ++ piece))) (sym going) tt;
    }

-- a piece was refused
pub refused_answer : (A : Type 0) (limit : ℕ) (before : Fed) (piece : List ℕ) (old : Feed) (f : BaseFault) → old.fault ≡ None
    → ((bytes : List ℕ) → Keeps bytes old.kept → Stops old.limit (bytes ++ piece) f) → IsFed limit before old → AnswersPiece {A = A} limit before piece (Err f)
refused_answer A limit before piece old f free stops is =
    let going : before.told ≡ None = free_before limit before old free is in
    if_free limit before piece (Err f) going (subst (λ n. Stops n (before.bytes ++ piece) f) is.most (stops before.bytes (is.kept going)))

-- what was fed where this fault lasts, or does not
with_fault : (limit : ℕ) (before : Fed) (piece : List ℕ) (old new : Feed) (last : Option BaseFault) → old.fault ≡ None → new.limit ≡ old.limit → new.fault ≡ last → IsSame old.kept new.kept
    → IfSome last (Stops limit (before.bytes ++ piece)) → IsFed limit before old → IsFed limit (option_map_or (λ g. record { bytes = before.bytes ++ piece; told = Some g }) last before) new
with_fault limit before piece old new None free most told same why is = record {
  most = most ∙ is.most;
  fault = told ∙ sym (free_before limit before old free is);
  kept = λ h. kept_same before.bytes old.kept new.kept same (is.kept h);
  why = is.why;
}
with_fault limit before piece old new (Some f) free most told same why is = record { most = most ∙ is.most; fault = told; kept = λ h. absurd cc; why = why }

why_lasting : (limit : ℕ) (all : List ℕ) (f : BaseFault) → Stops limit all f → IfSome (lasting f) (Stops limit all)
why_lasting limit all fault.OutOfMemory stops = tt
why_lasting limit all (fault.BadLine n) stops = stops
why_lasting limit all fault.TooLong stops = stops
why_lasting limit all fault.Device stops = stops

pub refused_fed : (A : Type 0) (limit : ℕ) (before : Fed) (piece : List ℕ) (old new : Feed) (f : BaseFault) → old.fault ≡ None → new.limit ≡ old.limit → new.fault ≡ lasting f → IsSame old.kept new.kept
    → ((bytes : List ℕ) → Keeps bytes old.kept → Stops old.limit (bytes ++ piece) f) → IsFed limit before old → IsFed limit (fed_with {A = A} before piece (Err f)) new
refused_fed A limit before piece old new f free most told same stops is =
    let why : Stops limit (before.bytes ++ piece) f = subst (λ n. Stops n (before.bytes ++ piece) f) is.most (stops before.bytes (is.kept (free_before limit before old free is))) in
    with_fault limit before piece old new (lasting f) free most told same (why_lasting limit (before.bytes ++ piece) f why) is

-- a fault was told before
told_before : (limit : ℕ) (before : Fed) (old : Feed) (f : BaseFault) → old.fault ≡ Some f → IsFed limit before old → before.told ≡ Some f
told_before limit before old f told is = sym is.fault ∙ told

pub again_answer : (A : Type 0) (limit : ℕ) (before : Fed) (piece : List ℕ) (old : Feed) (f : BaseFault) → old.fault ≡ Some f → IsFed limit before old → AnswersPiece {A = A} limit before piece (Err f)
again_answer A limit before piece old f told is =
    let answer : Result A BaseFault = Err f in
    subst (λ o. MatchOption o (Takes limit (before.bytes ++ piece) answer) (λ g. answer ≡ Err g)) (sym (told_before limit before old f told is)) refl

why_told : (limit : ℕ) (before : Fed) (old : Feed) (f : BaseFault) → old.fault ≡ Some f → IsFed limit before old → Stops limit before.bytes f
why_told limit before old f told is = subst (λ o. IfSome o (Stops limit before.bytes)) (told_before limit before old f told is) is.why

with_told : (limit : ℕ) (before : Fed) (piece : List ℕ) (old : Feed) (last : Option BaseFault) → IfSome last (λ f. old.fault ≡ Some f) → IfSome last (Stops limit (before.bytes ++ piece)) → IsFed limit before old
    → IsFed limit (option_map_or (λ g. record { bytes = before.bytes ++ piece; told = Some g }) last before) old
with_told limit before piece old None told why is = is
with_told limit before piece old (Some f) told why is = record { most = is.most; fault = told; kept = λ h. absurd cc; why = why }

same_lasting : (f : BaseFault) (told : Option BaseFault) → told ≡ Some f → IfSome (lasting f) (λ g. told ≡ Some g)
same_lasting fault.OutOfMemory told e = tt
same_lasting (fault.BadLine n) told e = e
same_lasting fault.TooLong told e = e
same_lasting fault.Device told e = e

pub again_fed : (A : Type 0) (limit : ℕ) (before : Fed) (piece : List ℕ) (old : Feed) (f : BaseFault) → old.fault ≡ Some f → IsFed limit before old → IsFed limit (fed_with {A = A} before piece (Err f)) old
again_fed A limit before piece old f told is =
    with_told limit before piece old (lasting f) (same_lasting f old.fault told)
    (why_lasting limit (before.bytes ++ piece) f (stops_longer limit before.bytes piece f (why_told limit before old f told is))) is

-- ---- the end

pub told_all : (limit : ℕ) (fed : Fed) (feed : Feed) (f : BaseFault) → feed.fault ≡ Some f → IsFed limit fed feed → AnswersAll limit fed (Err f)
told_all limit fed feed f told is =
    let answer : Result (Dataset Term) BaseFault = Err f in (
      stops_answered limit fed.bytes f (why_told limit fed feed f told is),
      subst (λ o. IfSome o (λ g. answer ≡ Err g)) (sym (told_before limit fed feed f told is)) refl,
    )

pub fed_all : (limit : ℕ) (fed : Fed) (feed : Feed) (result : Result (Dataset Term) BaseFault) → feed.fault ≡ None
    → ((limit : ℕ) (bytes : List ℕ) → Keeps bytes feed.kept → length bytes ≤ limit → IsAnswer limit bytes result) → IsFed limit fed feed → AnswersAll limit fed result
fed_all limit fed feed result free answer is =
    let going : fed.told ≡ None = free_before limit fed feed free is in
    let kept : Keeps fed.bytes feed.kept = is.kept going in
    let long : length fed.bytes ≡ feed.kept.len + length feed.kept.rest.items = kept_length fed.bytes feed.kept kept in
    let within : feed.kept.len + length feed.kept.rest.items ≤ feed.limit = feed.within in
    let most : feed.limit ≡ limit = is.most in
    (answer limit fed.bytes kept (omega arith), subst (λ o. IfSome o (λ g. result ≡ Err g)) (sym going) tt)

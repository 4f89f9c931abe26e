-- From what `clap` says of a parse to the answer of a command line.
use Rattle.std.proofs.Common.{◌≡◌, ◌⊎◌, ◌∙◌, ◌<◌, ◌≤◌, ℕ, true, List, [], ◌∷◌, Option, Some, None, refl, sym, ap, ap₂, subst, length, ◌^◌, inl, inr, arith, codes}
use Rattle.std.specs.Box.{box_value}
use Rattle.std.specs.Prelude.{◌≢◌, Box, option_map, Result, Ok, Err, unwrap_or}
use Rattle.std.specs.Str.Parse.{ParsesUnsigned}
use Rattle.clap.specs.Words.{App, Row, Text, first_of, one_of, first_value, one_text, found_of, rows_of, kind_of, is_simple, is_simple_and_free, subcommand_name_of, subcommand_of, subcommand_rows, subcommand_rows_of, fault_of, HasKind, IsAmong, Kinds, matches_of}
use Rattle.clap.specs.Matches.{ReadsOne}
use Rattle.clap.specs.declared.error.Error.{Error}
use Rattle.clap.specs.declared.error.kind.ErrorKind.{ErrorKind}
use Rattle.clap.specs.declared.error.kind.ErrorKind.TheVariants.{DisplayHelp, OutOfMemory, InvalidValue}
use Rattle.clap.specs.declared.parser.matches.ArgMatches.{ArgMatches}
use Rattle.clap.specs.declared.parser.matches.ArgMatches.TheViews.{out-ArgMatches, out-SubCommand}
use Rattle.clap.specs.declared.parser.matches.Found.{Found}
use Rattle.clap.specs.declared.parser.matches.SubCommand.{SubCommand}
use Rattle.clap.proofs.OnLiterals.{clap_on_literals}
use Rattle.clap.proofs.WalkLemmas.{first_value-rows, one_text-rows}
use Rattle.command_line.specs.declared.fault.LineFault.{LineFault}
use Rattle.command_line.specs.declared.fault.LineFault.TheVariants.{Memory, Help, Wrong}
use Rattle.command_line.specs.declared.job.Job.{Job}
use Rattle.command_line.specs.declared.words.JobWords.{JobWords}
use Rattle.command_line.specs.declared.words.Mistake.{Mistake}
use Rattle.command_line.specs.CommandLine as words
use Rattle.command_line.specs.CommandLine.{program, Words, words_of, words_in, IsWorkers, IsAsked, IsFileAnswer, IsWorkersAnswer, IsCommandAnswer, IsMatchAnswer, IsToldAs, IsAnswer}

simple : is_simple program ≡ true
unfolding clap_on_literals
simple = refl

simple_and_free : is_simple_and_free program ≡ true
unfolding clap_on_literals
simple_and_free = refl

no_help : InvalidValue ≡ DisplayHelp → ⊥
no_help e = cc

run_is_not_check : codes "run" ≡ codes "check" → ⊥
run_is_not_check e = let bad : 3 ≡ 5 = ap length e in absurd (omega (arith, bad))

run_is_not_serial : codes "run" ≡ codes "serial" → ⊥
run_is_not_serial e = let bad : 3 ≡ 6 = ap length e in absurd (omega (arith, bad))

serial_is_not_check : codes "serial" ≡ codes "check" → ⊥
serial_is_not_check e = let bad : 6 ≡ 5 = ap length e in absurd (omega (arith, bad))

abbrev first_letter : List ℕ → ℕ
first_letter [] = 0
first_letter (x ∷ xs) = x

run_is_not_replay : codes "run" ≡ codes "replay" → ⊥
run_is_not_replay e = let bad : 3 ≡ 6 = ap length e in absurd (omega (arith, bad))

serial_is_not_replay : codes "serial" ≡ codes "replay" → ⊥
serial_is_not_replay e = let bad : 115 ≡ 114 = ap first_letter e in absurd (omega (arith, bad))

replay_is_not_check : codes "replay" ≡ codes "check" → ⊥
replay_is_not_check e = let bad : 6 ≡ 5 = ap length e in absurd (omega (arith, bad))

pub base_fails : (rows : List Row) (m : Mistake) → IsFileAnswer (first_of (codes "BASE") rows) (Err m) → IsCommandAnswer (codes "run") rows (Err m)
base_fails rows m a = no
  where
    no : (w : Words) → IsAsked (codes "run") rows w → ⊥
    no (words.run b k o w l) h = let bad : None ≡ Some b = sym a ∙ h.1 in cc
    no (words.serial b k o) h = absurd (run_is_not_serial h.0)
    no (words.replay b k l o) h = absurd (run_is_not_replay h.0)
    no (words.check k) h = absurd (run_is_not_check h.0)

pub block_fails : (rows : List Row) (m : Mistake) → IsFileAnswer (first_of (codes "BLOCK") rows) (Err m) → IsCommandAnswer (codes "run") rows (Err m)
block_fails rows m a = no
  where
    no : (w : Words) → IsAsked (codes "run") rows w → ⊥
    no (words.run b k o w l) h = let bad : None ≡ Some k = sym a ∙ h.2 in cc
    no (words.serial b k o) h = absurd (run_is_not_serial h.0)
    no (words.replay b k l o) h = absurd (run_is_not_replay h.0)
    no (words.check k) h = absurd (run_is_not_check h.0)

pub out_fails : (rows : List Row) (m : Mistake) → IsFileAnswer (first_of (codes "OUT") rows) (Err m) → IsCommandAnswer (codes "run") rows (Err m)
out_fails rows m a = no
  where
    no : (w : Words) → IsAsked (codes "run") rows w → ⊥
    no (words.run b k o w l) h = let bad : None ≡ Some o = sym a ∙ h.3 in cc
    no (words.serial b k o) h = absurd (run_is_not_serial h.0)
    no (words.replay b k l o) h = absurd (run_is_not_replay h.0)
    no (words.check k) h = absurd (run_is_not_check h.0)

pub workers_fail : (rows : List Row) (m : Mistake) → IsWorkersAnswer (one_of (codes "workers") rows) (Err m) → IsCommandAnswer (codes "run") rows (Err m)
workers_fail rows m a = no
  where
    no : (w : Words) → IsAsked (codes "run") rows w → ⊥
    no (words.run b k o w l) h = a w h.4
    no (words.serial b k o) h = absurd (run_is_not_serial h.0)
    no (words.replay b k l o) h = absurd (run_is_not_replay h.0)
    no (words.check k) h = absurd (run_is_not_check h.0)

pub serial_base_fails : (rows : List Row) (m : Mistake) → IsFileAnswer (first_of (codes "BASE") rows) (Err m) → IsCommandAnswer (codes "serial") rows (Err m)
serial_base_fails rows m a = no
  where
    no : (w : Words) → IsAsked (codes "serial") rows w → ⊥
    no (words.run b k o w l) h = absurd (run_is_not_serial (sym h.0))
    no (words.serial b k o) h = let bad : None ≡ Some b = sym a ∙ h.1 in cc
    no (words.replay b k l o) h = absurd (serial_is_not_replay h.0)
    no (words.check k) h = absurd (serial_is_not_check h.0)

pub serial_block_fails : (rows : List Row) (m : Mistake) → IsFileAnswer (first_of (codes "BLOCK") rows) (Err m) → IsCommandAnswer (codes "serial") rows (Err m)
serial_block_fails rows m a = no
  where
    no : (w : Words) → IsAsked (codes "serial") rows w → ⊥
    no (words.run b k o w l) h = absurd (run_is_not_serial (sym h.0))
    no (words.serial b k o) h = let bad : None ≡ Some k = sym a ∙ h.2 in cc
    no (words.replay b k l o) h = absurd (serial_is_not_replay h.0)
    no (words.check k) h = absurd (serial_is_not_check h.0)

pub serial_out_fails : (rows : List Row) (m : Mistake) → IsFileAnswer (first_of (codes "OUT") rows) (Err m) → IsCommandAnswer (codes "serial") rows (Err m)
serial_out_fails rows m a = no
  where
    no : (w : Words) → IsAsked (codes "serial") rows w → ⊥
    no (words.run b k o w l) h = absurd (run_is_not_serial (sym h.0))
    no (words.serial b k o) h = let bad : None ≡ Some o = sym a ∙ h.3 in cc
    no (words.replay b k l o) h = absurd (serial_is_not_replay h.0)
    no (words.check k) h = absurd (serial_is_not_check h.0)

pub replay_base_fails : (rows : List Row) (m : Mistake) → IsFileAnswer (first_of (codes "BASE") rows) (Err m) → IsCommandAnswer (codes "replay") rows (Err m)
replay_base_fails rows m a = no
  where
    no : (w : Words) → IsAsked (codes "replay") rows w → ⊥
    no (words.run b k o w l) h = absurd (run_is_not_replay (sym h.0))
    no (words.serial b k o) h = absurd (serial_is_not_replay (sym h.0))
    no (words.replay b k l o) h = let bad : None ≡ Some b = sym a ∙ h.1 in cc
    no (words.check k) h = absurd (replay_is_not_check h.0)

pub replay_block_fails : (rows : List Row) (m : Mistake) → IsFileAnswer (first_of (codes "BLOCK") rows) (Err m) → IsCommandAnswer (codes "replay") rows (Err m)
replay_block_fails rows m a = no
  where
    no : (w : Words) → IsAsked (codes "replay") rows w → ⊥
    no (words.run b k o w l) h = absurd (run_is_not_replay (sym h.0))
    no (words.serial b k o) h = absurd (serial_is_not_replay (sym h.0))
    no (words.replay b k l o) h = let bad : None ≡ Some k = sym a ∙ h.2 in cc
    no (words.check k) h = absurd (replay_is_not_check h.0)

pub replay_journal_fails : (rows : List Row) (m : Mistake) → IsFileAnswer (first_of (codes "JOURNAL") rows) (Err m) → IsCommandAnswer (codes "replay") rows (Err m)
replay_journal_fails rows m a = no
  where
    no : (w : Words) → IsAsked (codes "replay") rows w → ⊥
    no (words.run b k o w l) h = absurd (run_is_not_replay (sym h.0))
    no (words.serial b k o) h = absurd (serial_is_not_replay (sym h.0))
    no (words.replay b k l o) h = let bad : None ≡ Some l = sym a ∙ h.3 in cc
    no (words.check k) h = absurd (replay_is_not_check h.0)

pub replay_out_fails : (rows : List Row) (m : Mistake) → IsFileAnswer (first_of (codes "OUT") rows) (Err m) → IsCommandAnswer (codes "replay") rows (Err m)
replay_out_fails rows m a = no
  where
    no : (w : Words) → IsAsked (codes "replay") rows w → ⊥
    no (words.run b k o w l) h = absurd (run_is_not_replay (sym h.0))
    no (words.serial b k o) h = absurd (serial_is_not_replay (sym h.0))
    no (words.replay b k l o) h = let bad : None ≡ Some o = sym a ∙ h.4 in cc
    no (words.check k) h = absurd (replay_is_not_check h.0)

pub checked_block_fails : (rows : List Row) (m : Mistake) → IsFileAnswer (first_of (codes "BLOCK") rows) (Err m) → IsCommandAnswer (codes "check") rows (Err m)
checked_block_fails rows m a = no
  where
    no : (w : Words) → IsAsked (codes "check") rows w → ⊥
    no (words.run b k o w l) h = absurd (run_is_not_check (sym h.0))
    no (words.serial b k o) h = absurd (serial_is_not_check (sym h.0))
    no (words.replay b k l o) h = absurd (replay_is_not_check (sym h.0))
    no (words.check k) h = let bad : None ≡ Some k = sym a ∙ h.1 in cc

-- a name of no command
pub no_command : (name : Text) (rows : List Row) → (name ≡ codes "run" → ⊥) → (name ≡ codes "serial" → ⊥) → (name ≡ codes "replay" → ⊥) → (name ≡ codes "check" → ⊥)
    → (w : Words) → IsAsked name rows w → ⊥
no_command name rows is_run is_serial is_replay is_check = no
  where
    no : (w : Words) → IsAsked name rows w → ⊥
    no (words.run b k o w l) h = is_run h.0
    no (words.serial b k o) h = is_serial h.0
    no (words.replay b k l o) h = is_replay h.0
    no (words.check k) h = is_check h.0

not_help : (ks : Kinds) → ks ≡ [] → ks ≢ DisplayHelp ∷ []
not_help ks e h = let bad : [] ≡ DisplayHelp ∷ [] = sym e ∙ h in cc

only_help : (k : ErrorKind) (ks : Kinds) → ks ≡ DisplayHelp ∷ [] → IsAmong k ks → k ≡ DisplayHelp
only_help k ks e h = one (subst (λ (x : Kinds). IsAmong k x) e h)
  where
    one : (k ≡ DisplayHelp) ⊎ ⊥ → k ≡ DisplayHelp
    one (inl is) = is
    one (inr none) = absurd none

none_among : (k : ErrorKind) (ks : Kinds) → ks ≡ [] → IsAmong k ks → ⊥
none_among k ks e h = subst (λ (x : Kinds). IsAmong k x) e h

-- a parse that fails
pub parse_fails : (app : App) → app ≡ program → (words : List Text) (e : Error) (f : LineFault)
    → (is_simple_and_free app ≡ true → HasKind (fault_of app words) e) → IsToldAs (kind_of e) f → IsAnswer words (Err f)
parse_fails app is words e f kinds told = go f told
  where
    has : HasKind (fault_of program words) e
    has = subst (λ (a : App). is_simple_and_free a ≡ true → HasKind (fault_of a words) e) is kinds simple_and_free

    go : (f : LineFault) → IsToldAs (kind_of e) f → IsAnswer words (Err f)
    go Memory t = absurd t
    go (Help m) t = elim has [
      | inl o ↦ let bad : OutOfMemory ≡ DisplayHelp = sym o ∙ t in cc
      | inr h ↦ subst (λ (k : ErrorKind). IsAmong k (fault_of program words)) t h
    ]
    go (Wrong m) t = (
      λ help. elim has [ inl o ↦ t.0 o | inr h ↦ t.1 (only_help (kind_of e) (fault_of program words) help h) ],
      λ none j job. elim has [ inl o ↦ t.0 o | inr h ↦ none_among (kind_of e) (fault_of program words) none h ],
    )

named : (o : Option (Text × List Row)) (name : Text) (rows : List Row) → Some name ≡ option_map (λ p. p.0) o → Some rows ≡ option_map (λ p. p.1) o → o ≡ Some (name, rows)
named None name rows n e = let bad : Some rows ≡ None = e in cc
named (Some p) name rows n e =
    let same_name : name ≡ p.0 = cc in
    let same : rows ≡ p.1 = cc in
    ap₂ (λ (x : Text) (y : List Row). Some (x, y)) (sym same_name) (sym same)

unnamed : (o : Option (Text × List Row)) → None ≡ option_map (λ p. p.1) o → o ≡ None
unnamed None e = refl
unnamed (Some p) e = cc

same_rows : (o : Option (Text × List Row)) (n m : Text) (xs ys : List Row) → o ≡ Some (n, xs) → o ≡ Some (m, ys) → ys ≡ xs
same_rows o n m xs ys e h =
    let both : Some xs ≡ Some ys = ap (option_map (λ (p : Text × List Row). p.1)) (sym e ∙ h) in
    cc

same_names : (o : Option (Text × List Row)) (n m : Text) (xs ys : List Row) → o ≡ Some (n, xs) → o ≡ Some (m, ys) → m ≡ n
same_names o n m xs ys e h =
    let both : Some n ≡ Some m = ap (option_map (λ (p : Text × List Row). p.0)) (sym e ∙ h) in
    cc

-- the name that a parse tells is that of the rows it tells
name_of_rows : (m : ArgMatches) → subcommand_name_of m ≡ option_map (λ p. p.0) (subcommand_rows_of m)
name_of_rows m = go (out-ArgMatches m).subcommand
  where
    go : {Z : Type 0} (o : Option (Box SubCommand Z)) → option_map (λ b. (out-SubCommand (box_value b)).name.now) o ≡ option_map (λ p. p.0) (subcommand_rows o)
    go None = refl
    go (Some b) = refl

-- the command that is named
pub match_named : (m : ArgMatches) (name : Text) (rows : List Row) (r : Result JobWords Mistake) → Some name ≡ subcommand_name_of m
    → Some rows ≡ option_map (λ p. p.1) (subcommand_rows_of m) → IsCommandAnswer name rows r → IsMatchAnswer (subcommand_rows_of m) r
match_named m name rows r called found a = go r a
  where
    own : subcommand_rows_of m ≡ Some (name, rows)
    own = named (subcommand_rows_of m) name rows (called ∙ name_of_rows m) found

    go : (r : Result JobWords Mistake) → IsCommandAnswer name rows r → IsMatchAnswer (subcommand_rows_of m) r
    go (Ok w) h = (name, rows, own, h)
    go (Err e) h = λ n rs w is asked. h w (
        subst (λ (x : Text). IsAsked x rows w) (same_names _ name n rows rs own is)
        (subst (λ (x : List Row). IsAsked n x w) (same_rows _ name n rows rs own is) asked)
        )

none_some : (o : Option (Text × List Row)) (x : Text × List Row) → o ≡ None → o ≡ Some x → ⊥
none_some o x e h = let bad : None ≡ Some x = sym e ∙ h in cc

-- and where none is
pub match_unnamed : (m : ArgMatches) (e : Mistake) → None ≡ option_map (λ p. p.1) (subcommand_rows_of m) → IsMatchAnswer (subcommand_rows_of m) (Err e)
match_unnamed m e found n rs w is asked = none_some (subcommand_rows_of m) (n, rs) (unnamed (subcommand_rows_of m) found) is

module _ (app : App) (is : app ≡ program) (words : List Text) (m : ArgMatches)
    (kinds : is_simple_and_free app ≡ true → fault_of app words ≡ [])
    (matches : is_simple app ≡ true → (rows_of (found_of m) ≡ matches_of app words) × (subcommand_rows_of m ≡ subcommand_of app words)) where
  free : fault_of program words ≡ []
  free = subst (λ (x : App). is_simple_and_free x ≡ true → fault_of x words ≡ []) is kinds simple_and_free

  entered : subcommand_rows_of m ≡ subcommand_of program words
  entered = (matches (ap is_simple is ∙ simple)).1 ∙ ap (λ (x : App). subcommand_of x words) is

  -- a parse that gives the words of a job
  pub parse_gives : (w : JobWords) (j : Job) → IsMatchAnswer (subcommand_rows_of m) (Ok w) → words_of j ≡ words_in w → IsAnswer words (Ok j)
  parse_gives w j a same = (free, (a.0, a.1, sym entered ∙ a.2, subst (λ (x : Words). IsAsked a.0 a.1 x) (sym same) a.3))

  -- and one that gives none
  pub parse_lacks : (e : Mistake) (f : LineFault) → IsMatchAnswer (subcommand_rows_of m) (Err e) → IsToldAs InvalidValue f → IsAnswer words (Err f)
  parse_lacks e f a told = go f told
    where
      go : (f : LineFault) → IsToldAs InvalidValue f → IsAnswer words (Err f)
      go Memory t = absurd t
      go (Help n) t = absurd (no_help t)
      go (Wrong n) t = (not_help (fault_of program words) free, λ none j job. a job.0 job.1 (words_of j) (entered ∙ job.2) job.3)

pub word_is : (f : Found) (id : Text) → first_value f id ≡ first_of id (rows_of f)
word_is f id = first_value-rows f id

module _ {E : Type 0} (G : List ℕ → Result ℕ E → Type 0) (parses : (bs : List ℕ) (r : Result ℕ E) → G bs r → ParsesUnsigned 32 10 bs r) where
  fits : (n m : ℕ) → n ≡ m → n ≤ 64 → m < 2 ^ 32
  fits n m e h = omega arith

  -- what is read is the number of the text
  pub number_is : (f : Found) (r : Option ℕ) → ((t : List ℕ) → one_text f (codes "workers") ≡ Some t → ReadsOne G t r)
      → (w : ℕ) → IsWorkers (one_of (codes "workers") (rows_of f)) w → unwrap_or r 0 ≡ w
  number_is f r value w h = go r (value h.0.0 (one_text-rows f (codes "workers") ∙ h.0.1))
    where
      go : (r : Option ℕ) → ReadsOne G h.0.0 r → unwrap_or r 0 ≡ w
      go (Some v) g = (parses _ (Ok v) g).1 ∙ sym h.0.2.1
      go None g = absurd (parses _ (Err g.0) g.1 (h.0.2.0, fits w _ h.0.2.1 h.2))

  -- and where it is not 0 there is such a text
  pub number_read : (f : Found) (r : Option ℕ) → (one_text f (codes "workers") ≡ None → r ≡ None)
      → ((t : List ℕ) → one_text f (codes "workers") ≡ Some t → ReadsOne G t r)
      → 1 ≤ unwrap_or r 0 → unwrap_or r 0 ≤ 64 → IsWorkers (one_of (codes "workers") (rows_of f)) (unwrap_or r 0)
  number_read f r none value low high = go (one_text f (codes "workers")) refl
    where
      read : (t : Text) (r : Option ℕ) → ReadsOne G t r → 1 ≤ unwrap_or r 0 → unwrap_or r 0 ≤ 64 → one_text f (codes "workers") ≡ Some t
          → IsWorkers (one_of (codes "workers") (rows_of f)) (unwrap_or r 0)
      read t (Some v) g low high e =
          ((t, sym (one_text-rows f (codes "workers")) ∙ e, ((parses _ (Ok v) g).0.0, (parses _ (Ok v) g).1)), low, high)
      read t None g low high e = absurd (omega arith)

      go : (o : Option Text) → one_text f (codes "workers") ≡ o → IsWorkers (one_of (codes "workers") (rows_of f)) (unwrap_or r 0)
      go None e =
          let bad : 1 ≤ 0 = subst (λ (x : Option ℕ). 1 ≤ unwrap_or x 0) (none e) low in
          absurd (omega arith)
      go (Some t) e = read t r (value t e) low high e

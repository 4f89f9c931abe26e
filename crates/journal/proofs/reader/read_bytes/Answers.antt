use Rattle.std.proofs.Common.{ℕ, List, sym, subst, inr, IfOk}
use Rattle.journal.specs.Journal.{IsJournal, IsBadBehind}
use Rattle.journal.proofs.EntryLaws.{begun}
use Rattle.journal.proofs.reader.read_bytes.Goals as goal

pub returns-clause-lines : goal.returns-clause-lines
returns-clause-lines c =
    subst (λ (b : List ℕ). IfOk c.read_lines.result (λ v. IsJournal c.args.tag b v.items)) (begun c.args.bytes.now c.in-Some.text.now c.in-Some.ensures.0 c.in-Some.ensures.1) c.read_lines.ensures.lines

pub returns-clause-bad : goal.returns-clause-bad
returns-clause-bad c n e =
    inr (subst (λ (b : List ℕ). IsBadBehind c.args.tag b n) (begun c.args.bytes.now c.in-Some.text.now c.in-Some.ensures.0 c.in-Some.ensures.1) (c.read_lines.ensures.bad n e))

pub returns-in_err-mark-clause-foreign : goal.returns-in_err-mark-clause-foreign
returns-in_err-mark-clause-foreign c foreign =
    absurd (foreign c.in-Some.text.now (sym (begun c.args.bytes.now c.in-Some.text.now c.in-Some.ensures.0 c.in-Some.ensures.1)))

pub returns-clause-foreign : goal.returns-clause-foreign
returns-clause-foreign c foreign =
    absurd (foreign c.in-Some.text.now (sym (begun c.args.bytes.now c.in-Some.text.now c.in-Some.ensures.0 c.in-Some.ensures.1)))

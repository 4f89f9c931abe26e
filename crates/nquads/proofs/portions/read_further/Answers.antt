use Rattle.std.proofs.Common.{◌≡◌, ◌+◌, ◌≤◌, ℕ, length, ap, subst, arith}
use Rattle.devices.specs.Front.{IsFilled}
use Rattle.nquads.specs.Pieces.{ArePieces}
use Rattle.nquads.specs.Portions.{all_behind, as_one, ends_of, ends_in}
use Rattle.nquads.proofs.PortionLaws.{further_fault, further_read, few_in_pieces, ends_behind}
use Rattle.nquads.proofs.portions.read_further.Goals as goal

pub returns-in-Err-clause-err : goal.returns-in-Err-clause-err
returns-in-Err-clause-err g c = λ limit text is few.
    let pieces : ArePieces c.args.read.rest.items c.in-Some.text.now c.in-Some.begun.now = subst (λ t. ArePieces t c.in-Some.text.now c.in-Some.begun.now) c.as_slice.ensures.value c.in-Some.ensures in
    further_fault c.lines_are_read.ensures limit text _ c.args.read c.in-Some.text.now c.in-Some.begun.now c.in-Err.fault is pieces few c.in-Err.ensures.err

pub returns-clause-ok : goal.returns-clause-ok
returns-clause-ok g c = λ before is.
    let pieces : ArePieces c.args.read.rest.items c.in-Some.text.now c.in-Some.begun.now = subst (λ t. ArePieces t c.in-Some.text.now c.in-Some.begun.now) c.as_slice.ensures.value c.in-Some.ensures in
    let limit : ℕ = c.len.result + c.portion_behind.result in
    further_read c.lines_are_read.ensures c.lists_unite.ensures before (g.R.Read.remaining c.args.reader.now.inner) (g.R.Read.remaining c.read_and_filled.new.reader.inner) limit c.args.read c.in-Some.text.now c.in-Some.begun.now
    c.in-Ok.read.0 c.in-Ok.read.1 c.read_and_filled.new.bytes c.args.read.rest c.in-Ok.read.2 is pieces
    (subst (λ t. IsFilled limit (g.R.Read.remaining c.args.reader.now.inner) (g.R.Read.remaining c.read_and_filled.new.reader.inner) t c.read_and_filled.new.bytes.items c.in-Ok.read.2) c.in_ok-next.ensures c.in-Ok.ensures.filled)
    c.in-Ok.ensures.read.0 c.in-Ok.ensures.read.1

pub returns-clause-ends : goal.returns-clause-ends
returns-clause-ends g c =
    let said : ends_in c.in-Ok.read.1 ≤ length c.in-Some.text.now = few_in_pieces c.in-Some.text.now c.in-Ok.read.1 c.in-Ok.ensures.read.1 in
    let ends : ends_of (as_one c.args.read.lines) ≤ c.args.read.len = c.requires.ends in
    let before : ends_of c.in-Ok.read.0 ≡ ends_of (as_one c.args.read.lines) = ap ends_of c.in-Ok.ensures.read.0 in
    let sum : (all_behind c.in-Ok.read.0 c.in-Ok.read.1).ends ≡ ends_of c.in-Ok.read.0 + ends_in c.in-Ok.read.1 = ends_behind c.in-Ok.read.0 c.in-Ok.read.1 in
    omega arith

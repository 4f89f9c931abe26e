use Rattle.std.proofs.Common.{◌≡◌, ◌≤◌, ◌<◌, ◌+◌, ◌-◌, ◌⊎◌, inl, inr, ℕ, false, eqb, max, length, get_or, arith}
use Rattle.std.proofs.lemmas.Bool.{ne_eqb}
use Rattle.nquads.proofs.KeptLaws.{begun_found, ends_by_cr, begun_back}
use Rattle.nquads.proofs.kept.known_end.Goals as goal

pub returns-then-end-bytes : goal.returns-then-end-bytes
returns-then-end-bytes c =
    let first : c.max-first.result ≡ max c.args.from 1 = c.max-first.ensures in
    let below : c.max-first.result ≤ c.loop-end.end = c.loop-end-test.true in (
      c.loop-end.invariant.within,
      ends_by_cr c.args.bytes.now c.loop-end.end (omega arith) (omega arith) c.if-bytes-end-eq13.true c.loop-end.invariant.begun,
      c.loop-end.invariant.begun,
    )

pub loop-end-preserved : goal.loop-end-preserved
loop-end-preserved c =
    let first : c.max-first.result ≡ max c.args.from 1 = c.max-first.ensures in
    let below : c.max-first.result ≤ c.loop-end.end = c.loop-end-test.true in
    let few : c.loop-end.end ≤ length c.args.bytes.now = c.loop-end.invariant.within in
    let byte : ℕ = get_or c.args.bytes.now (c.loop-end.end - 1) 0 in
    let cr : (eqb byte 13 ≡ false) ⊎ (c.loop-end.end ≡ length c.args.bytes.now) =
    elim c.else-bytes-end-eq13.either [ inl h ↦ inr (let long : length c.args.bytes.now ≤ c.loop-end.end = h.1 in omega arith) | inr h ↦ inl (ne_eqb byte 13 h) ] in
    record {
      within = omega arith;
      near = omega arith;
      begun = begun_back c.args.bytes.now c.loop-end.end (omega arith) few (ne_eqb byte 10 c.if-bytes-end-eq10.false) cr c.loop-end.invariant.begun;
    }

pub returns : goal.returns
returns c = λ g.
    let first : c.max-first.result ≡ max c.args.from 1 = c.max-first.ensures in
    let below : c.loop-end.end < c.max-first.result = c.loop-end-test.false in
    let near : c.max-first.result ≤ c.loop-end.end + 1 = c.loop-end.invariant.near in
    begun_found c.args.bytes.now c.args.from c.loop-end.end (omega arith) (λ e. omega arith) (λ h. omega arith) c.loop-end.invariant.begun g

use Rattle.std.specs.Prelude.{ℕ, ◌==◌, ◌≢◌, ◌+◌}
use Rattle.std.proofs.Common.{rules, ◌≡◌, false, List, [], length, sym, ap, ◌∙◌, arith}
use Rattle.std.proofs.lemmas.Bool.{not-true, false≢true}
use Rattle.canonical_nquads.specs.Tag.{mark_of}
use Rattle.journal.specs.declared.fault.JournalFault.TheVariants.{OutOfMemory, BadEntry}
use Rattle.journal.proofs.EntryLaws.{more_text, more_lines, bad_here, cut_short_there, cut_short_behind}
use Rattle.journal.proofs.reader.read_lines.Goals as goal

pub returns-in_err-push-in-Ok-clause-memory : goal.returns-in_err-push-in-Ok-clause-memory
returns-in_err-push-in-Ok-clause-memory c e =
    cut_short_behind c.args.tag c.args.text.now c.loop-rest.rest.now c.loop-rest.lines.items _ c.next_entry.result _ c.loop-rest.invariant.text c.loop-rest.invariant.each c.next_entry.ensures.none c.in-Ok.is

pub returns-in-Err-clause-memory : goal.returns-in-Err-clause-memory
returns-in-Err-clause-memory c e =
    let same : c.in-Err.fault ≡ OutOfMemory = cc in
    cut_short_there c.args.tag c.args.text.now c.loop-rest.rest.now c.loop-rest.lines.items _ c.in-Err.fault c.loop-rest.invariant.text c.loop-rest.invariant.each c.in-Err.ensures.bad same

pub returns-in-Err-clause-bad : goal.returns-in-Err-clause-bad
returns-in-Err-clause-bad c n e =
    let none : c.is_empty.result ≡ false = search (rules, not-true) in
    let more : c.loop-rest.rest.now ≢ [] = λ empty. absurd (false≢true (sym none ∙ c.is_empty.ensures ∙ ap (λ (r : List ℕ). length r == 0) empty)) in
    let count : c.len.result + 1 ≡ length c.loop-rest.lines.items + 1 = omega (arith, c.len.ensures, c.loop-rest.lines.ok.0) in
    let same : c.in-Err.fault ≡ BadEntry n = cc in
    bad_here c.args.tag c.args.text.now c.loop-rest.rest.now c.loop-rest.lines.items (c.len.result + 1) c.in-Err.fault n c.loop-rest.invariant.text c.loop-rest.invariant.each more
    count c.in-Err.ensures.bad same

pub loop-rest-preserved : goal.loop-rest-preserved
loop-rest-preserved c = record {
  text = more_text c.args.tag c.loop-rest.lines.items c.push.new.self.items c.in-Ok.line c.args.text.now c.loop-rest.rest.now c.in-Ok.after.now c.loop-rest.invariant.text
      c.in-Ok.ensures.text c.in_ok-push-in-Ok.ensures.items;
  each = more_lines (mark_of c.args.tag) c.args.mark.now c.loop-rest.lines.items c.push.new.self.items c.in-Ok.line c.requires c.loop-rest.invariant.each c.in-Ok.ensures.form
      c.in_ok-push-in-Ok.ensures.items;
}

use Rattle.std.proofs.Common.{refl, ap, ◌∙◌, ◌++◌, ◌∷◌, [], List, length}
use Rattle.std.proofs.lemmas.Option.{slice_get_read}
use Rattle.reads.specs.declared.note.Note.{Note}
use Rattle.recount.specs.Recounting.{IsNoteOf}
use Rattle.recount.proofs.Noting.{short, stopped, found, noted_now}
use Rattle.recount.proofs.again.place_of.Goals as goal

pub returns-then-same_reads : goal.returns-then-same_reads
returns-then-same_reads g c =
    found g.S.Source.asks c.args.source.now c.args.notes.now.items _ c.args.read.now c.args.next c.index.result.now
    (slice_get_read c.args.notes.now.items c.len.result c.args.next c.index.result.now (c.len.ensures ∙ c.args.notes.now.ok.0) c.if-next-len.true c.index.ensures)
    (c.same_reads.ensures.exact.0 c.if-same_reads.true) refl

pub returns-in_err-reserve : goal.returns-in_err-reserve
returns-in_err-reserve g c =
    short g.S.Source.asks c.args.source.now c.args.notes.now.items _ c.args.read.now (IsNoteOf c.args.read.now) c.from_residual.result c.reserve.ensures.items c.from_residual.ensures.1

pub returns-in_err-answer : goal.returns-in_err-answer
returns-in_err-answer g c =
    stopped g.S.Source.asks c.args.source.now c.args.notes.now.items _ c.args.read.now (IsNoteOf c.args.read.now) c.from_residual-in_err-answer.result _ _ c.reserve.ensures.items
    c.in_err-answer.ensures c.from_residual-in_err-answer.ensures.1

pub returns : goal.returns
returns g c =
    noted_now g.S.Source.asks c.args.source.now c.args.notes.now.items _ c.args.read.now c.len-place.result c.in_ok-answer.answer c.ask.new.self c.in_ok-answer.ensures
    (c.len-place.ensures ∙ c.reserve.new.self.ok.0 ∙ ap length c.reserve.ensures.items) (c.push_reserved.ensures.items ∙ ap (λ (ns : List Note). ns ++ record { read = c.args.read.now; answer = c.in_ok-answer.answer } ∷ []) c.reserve.ensures.items)

use Rattle.std.proofs.Common.{refl}
use Rattle.dict.specs.Dictionary.{is_known}
use Rattle.recount.specs.Recounting.{IsNoteOf, IsTold}
use Rattle.recount.proofs.Noting.{as_it, then_short, then_told}
use Rattle.recount.proofs.again.RecountSource.ask.Goals as goal

pub returns-in_err-place : goal.returns-in_err-place
returns-in_err-place g c = record {
  dict = refl;
  source = refl;
  notes = refl;
  recounts = as_it (IsNoteOf c.args.read.now) (IsTold (is_known c.args.self.now.dict.now) c.args.read.now) c.from_residual.result _ c.in_err-place.ensures c.from_residual.ensures.1;
}

pub returns-in_err-counted : goal.returns-in_err-counted
returns-in_err-counted g c = record {
  dict = refl;
  source = refl;
  notes = refl;
  recounts = then_short (IsNoteOf c.args.read.now) (IsTold (is_known c.args.self.now.dict.now) c.args.read.now) c.from_residual-in_err-counted.result c.in_ok-place.place c.in_ok-place.ensures c.from_residual-in_err-counted.ensures.1;
}

pub returns : goal.returns
returns g c = record {
  dict = refl;
  source = refl;
  notes = refl;
  recounts = then_told (is_known c.args.self.now.dict.now) c.in_ok-place.place c.in_ok-counted.field-0 c.index.result.now c.in_ok-place.ensures c.index.ensures c.in_ok-counted.ensures;
}

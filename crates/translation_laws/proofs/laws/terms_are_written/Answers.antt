use Rattle.translation_laws.proofs.WrittenLaws.{reading_written, request_written, request_terms}
use Rattle.translation_laws.proofs.laws.terms_are_written.Goals as goal

pub returns : goal.returns
returns c = record { reading = reading_written; request = request_written; formed = request_terms }

use Rattle.rules.proofs.CutLaws.{text_within}
use Rattle.rules.proofs.cut.after_text.Goals as goal

pub split_at-requires : goal.split_at-requires
split_at-requires c = rw c.text_len.ensures (text_within c.args.bytes.now)

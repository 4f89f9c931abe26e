use Rattle.std.proofs.Common.{refl, sym, [], ℕ, List, Option, Some, None}
use Rattle.std.proofs.lemmas.List.{append-nil}
use Rattle.std.specs.Io.KnownBytes.{Consumes}
use Rattle.devices.proofs.front.fill.Goals as goal

nothing_given : (known : Option (List ℕ)) → Consumes known known []
nothing_given None = tt
nothing_given (Some xs) = refl

pub loop-buffer-init : goal.loop-buffer-init
loop-buffer-init g c = ([], sym (append-nil c.args.bytes.now.items), nothing_given (g.R.Read.remaining c.args.reader.now.inner), refl)

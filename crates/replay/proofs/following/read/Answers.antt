use Rattle.std.proofs.Common.{List, Some, None, subst}
use Rattle.terms.specs.declared.term.Term.{Term}
use Rattle.replay.proofs.Steps.{IsFoundRead, follows_read, read_lacks}
use Rattle.replay.proofs.following.read.Goals as goal

pub returns-in_default-clause-none : goal.returns-in_default-clause-none
returns-in_default-clause-none c =
    let found = subst (λ (terms : List Term). IsFoundRead terms c.args.read.now None) c.terms.ensures c.in_default.ensures in
    read_lacks c.args.book.now c.args.book.now c.args.line.now c.args.i c.args.n c.args.read.now c.requires found

pub returns-clause-some : goal.returns-clause-some
returns-clause-some c =
    let found = subst (λ (terms : List Term). IsFoundRead terms c.args.read.now (Some c.in-Some.read)) c.terms.ensures c.in-Some.ensures in
    follows_read c.args.book.now c.step.new.self c.args.line.now c.args.i c.args.n c.args.read.now c.in-Some.read c.in_ok-reply.reply c.requires found c.in_ok-reply.ensures.lawful c.in_ok-reply.ensures.entry

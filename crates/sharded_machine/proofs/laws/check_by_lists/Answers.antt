use Rattle.sharded_machine.proofs.Checks.{check_by_lists}
use Rattle.sharded_machine.proofs.laws.check_by_lists.Goals as goal

pub returns : goal.returns
returns c = λ m history i n worker lengths pass note lists verdict ok lawful.
    check_by_lists m ok history lawful i n lengths worker pass note lists verdict

use Rattle.std.specs.Vec.Iter.{into_iter_items}
use Rattle.dict.specs.Dictionary.{term_of, is_known}
use Rattle.meaning_laws.specs.Renaming.{renamed_request, request_known}
use Rattle.store.specs.Held.{is_held}
use Rattle.store.proofs.Loops.{SoFar}
use Rattle.numbering.proofs.requests.number_requests.Given as goal

abbrev pub invariant-loop-request : goal.invariant-loop-request
invariant-loop-request l =
    (goal.iterator-loop-request).can_next l.request-iterator × (goal.iterator-loop-request).is_finite l.request-iterator
    × SoFar (renamed_request (term_of l.numbers)) (request_known (is_known l.numbers)) (request_known (is_held l.numbers)) l.list.items (into_iter_items l.request-iterator) l.fn.requests.items

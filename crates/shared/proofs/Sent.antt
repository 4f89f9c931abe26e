-- What workers share, and what each takes with it, may go to other threads.
use mathlib.Core.List.{[], ◌∷◌}
use denote.RattleType.{RattleType}
use denote.Struct.Tuple.{Tuple}
use Rattle.std.proofs.Crossing.{crosses, Box-send, Box-sync, Vec-sync}
use Rattle.std.specs.contracts.boxed.Box as Box
use Rattle.std.specs.contracts.vec.Vec as Vec
use Rattle.std.specs.contracts.alloc.Global as Global
use Rattle.std.specs.contracts.impls.GlobalAllocator.TheImpl.{ghosts}
use Rattle.sets.specs.contracts.items.Items as Items
use Rattle.algebra.specs.contracts.expression.Expression as Expression
use Rattle.algebra.specs.contracts.expression.TwoOperator as TwoOperator
use Rattle.algebra.specs.contracts.pattern.TriplePattern as TriplePattern
use Rattle.algebra.specs.contracts.plan.Link as Link
use Rattle.algebra.specs.contracts.plan.Plan as Plan
use Rattle.algebra.specs.contracts.plan.Pattern as Pattern
use Rattle.algebra.specs.contracts.template.QuadTemplate as QuadTemplate
use Rattle.algebra.specs.contracts.update.Modify as Modify
use Rattle.algebra.specs.contracts.update.Operation as Operation
use Rattle.algebra.proofs.expression.OneOperator.TheSendSync as one
use Rattle.algebra.proofs.expression.TwoOperator.TheSendSync as two
use Rattle.algebra.proofs.expression.Expression.TheLaws.TheKnot.{sync-Expression}
use Rattle.algebra.proofs.pattern.Place.TheSendSync as place
use Rattle.algebra.proofs.pattern.TriplePattern.TheSendSync as triple
use Rattle.algebra.proofs.template.QuadTemplate.TheSendSync as template
use Rattle.algebra.proofs.update.GraphOperation.TheSendSync as graphs
use Rattle.algebra.proofs.plan.Plan.TheLaws.TheKnot.{sync-Plan}
use Rattle.std.specs.contracts.result.Result as Result
use Rattle.meaning.specs.contracts.reply.Refusal as Refusal
use Rattle.meaning.proofs.reply.Refusal.TheSendSync as refusal
use denote.Param.Send.{IsSend, IsSync, sendable}
use denote.Ref.{NamedLft}
use Rattle.datasets.specs.contracts.id.Id as Id
use Rattle.datasets.proofs.id.Id.TheSendSync as id
use Rattle.datasets.specs.contracts.quad.Quad as Quad
use Rattle.datasets.specs.contracts.read.Read as Read
use Rattle.datasets.specs.contracts.read.QuadPattern as QuadPattern
use Rattle.iris.specs.contracts.iri.Iri as Iri
use Rattle.terms.specs.contracts.literal.Literal as Literal
use Rattle.terms.specs.contracts.literal.Blank as Blank
use Rattle.terms.specs.contracts.term.Term as Term
use Rattle.dict.specs.contracts.dictionary.Dict as Dict
use Rattle.reads.specs.contracts.view.View as View
use Rattle.reads.specs.contracts.indexed.IndexedView as IndexedView
use Rattle.reads.specs.contracts.answered.Answered as Answered
use Rattle.reads.specs.contracts.answered.Form as AnswerForm
use Rattle.reads.specs.contracts.shared_items.SharedItems as SharedItems
use Rattle.delta.specs.contracts.delta.Delta as Delta
use Rattle.delta.specs.contracts.parts.Parts as Parts
use Rattle.delta.specs.contracts.finished.Finished as Finished
use Rattle.reads.specs.contracts.note.Note as Note
use Rattle.quad_lists.specs.contracts.known.KnownQuad as KnownQuad
use Rattle.quad_lists.specs.contracts.quad_list.Entries as Entries
use Rattle.quad_lists.specs.contracts.quad_list.QuadList as QuadList
use Rattle.quad_index.specs.contracts.order.Order as Order
use Rattle.quad_index.specs.contracts.index.Index as Index
use Rattle.quad_sets.specs.contracts.quad_set.QuadSet as QuadSet
use Rattle.version_overlay.specs.contracts.seen.SeenTerms as SeenTerms
use Rattle.version_overlay.specs.contracts.seen.SeenQuads as SeenQuads
use Rattle.version_overlay.specs.contracts.change_filter.ChangeFilter as ChangeFilter
use Rattle.version_overlay.specs.contracts.level.Level as Level
use Rattle.version_overlay.specs.contracts.settled.Settled as Settled
use Rattle.version_overlay.specs.contracts.whole_note.WholeNote as WholeNote
use Rattle.version_overlay.specs.contracts.lean_note.Form as NoteForm
use Rattle.version_overlay.specs.contracts.lean_note.LeanNote as LeanNote
use Rattle.quad_lists.proofs.key.Arrangement.TheSendSync as arrangement
use Rattle.incarnations.specs.contracts.state.Noted as Noted
use Rattle.incarnations.specs.contracts.state.Slot as Slot
use Rattle.incarnations.specs.contracts.state.Pass as MachinePass
use Rattle.incarnations.proofs.state.Pass.TheSendSync as a_pass
use Rattle.incarnations.proofs.state.Status.TheSendSync as a_status
use Rattle.incarnations.specs.contracts.state.Event as Event
use Rattle.incarnations.specs.contracts.state.Reply as MachineReply
use Rattle.incarnations.specs.contracts.state.Entry as Entry
use Rattle.validate.specs.contracts.kept.Kept as KeptSlots
use Rattle.slots.specs.contracts.slots.Slots as Slots
use Rattle.block_machine.specs.contracts.machine.Machine as Machine
use Rattle.meaning.specs.contracts.reply.Reply as Replied
use Rattle.meaning.proofs.reply.Reply.TheSendSync as a_reply
use Rattle.std.specs.contracts.option.Option as Option
use Rattle.std.proofs.option.Option.TheSendSync as option
use Rattle.stamp_tree.specs.contracts.tree.StampTree as StampTree
use Rattle.stamp_tree.proofs.tree.StampTree.TheLaws.TheKnot as trees
use Rattle.book.specs.contracts.journal_entry.Kept as KeptEvent
use Rattle.book.specs.contracts.journal_entry.JournalEntry as JournalEntry
use Rattle.book.specs.contracts.packed_entry.Form as EntryForm
use Rattle.book.specs.contracts.packed_entry.PackedEntry as PackedEntry
use Rattle.book.specs.contracts.journal.Journal as BookJournal
use Rattle.book.specs.contracts.book.Book as Book
use Rattle.blocklock.proofs.Sent.{lock, pass}
use Rattle.shared.specs.contracts.kept.Kept as Kept
use Rattle.shared.specs.contracts.kept.Subject as Subject
use Rattle.shared.specs.contracts.pass.Pass as Pass
use Rattle.shared.specs.contracts.kept.KeptJournaled.TheImpl as journaled
use Rattle.shared.specs.contracts.shared_block.SharedBlock as SharedBlock

module _ (T : RattleType) (s : IsSync T) where
  step : (h : RattleType) → IsSync h → IsSync (Tuple (TwoOperator.the_row ∷ h ∷ []))
  step h y = let o = two.the_sync in search sendable depth 20

  pub expression : IsSync (Expression.the_field T).row
  expression = sync-Expression T (search sendable) (search sendable) one.the_field_sync Box-sync two.the_field_sync (λ h y. Vec-sync (Tuple (TwoOperator.the_row ∷ h ∷ [])) (step h y))

  pub the_expression : IsSync (Expression.the_row T)
  the_expression = let e = expression in search sendable

  expressions : IsSync (Vec.the_field (Expression.the_row T) Global.the_row ghosts).row
  expressions = let e = the_expression in search (sendable, crosses) depth 20

  link : IsSync (Link.the_row T)
  link = let e = expressions in search sendable depth 20

  linked : (h : RattleType) → IsSync h → IsSync (Tuple (Link.the_row T ∷ h ∷ []))
  linked h y = let l = link in search sendable depth 20

  patterns : IsSync (Items.the_field (TriplePattern.the_row T)).row
  patterns = let t = triple.the_sync T s in search (sendable, crosses) depth 20

  pub plan : IsSync (Plan.the_field T).row
  plan = sync-Plan T patterns (λ h y. Vec-sync (Tuple (Link.the_row T ∷ h ∷ [])) (linked h y)) expressions Vec-sync (place.the_field_sync T s) Box-sync

  pub pattern : IsSync (Pattern.the_row T)
  pattern = let p = plan in search sendable depth 20

  templates : IsSync (Items.the_field (QuadTemplate.the_row T)).row
  templates = let t = template.the_sync T s in search (sendable, crosses) depth 20

  pub modify : IsSync (Modify.the_field T).row
  modify = let p = pattern in let t = templates in search sendable depth 20

  operation : IsSync (Operation.the_row T)
  operation = let m = modify in let g = graphs.the_field_sync T s in search sendable depth 20

  operations : IsSync (Items.the_row (Operation.the_row T))
  operations = let o = operation in search (sendable, crosses) depth 20

  pub request : IsSync (Result.the_row (Items.the_row (Operation.the_row T)) Refusal.the_row)
  request = let o = operations in let r = refusal.the_field_sync in search sendable depth 20

-- ---- what is read and written

pub requests : IsSync (Result.the_row (Items.the_row (Operation.the_row Id.the_row)) Refusal.the_row)
requests = request Id.the_row id.the_sync

iri : IsSync (Iri.the_field).row
iri = search (sendable, crosses) depth 30

literal : IsSync (Literal.the_field).row
literal = let i = iri in search (sendable, crosses) depth 30

blank : IsSync (Blank.the_field).row
blank = search (sendable, crosses) depth 30

term : IsSync (Term.the_field).row
term = let i = iri in let l = literal in let b = blank in search (sendable, crosses) depth 30

pub dict : IsSync (Dict.the_row)
dict = let t = term in search (sendable, crosses) depth 20

quad_sync : IsSync (Quad.the_row Id.the_row)
quad_sync = let i = id.the_field_sync in search (sendable, crosses) depth 20

scan_pattern : IsSend (QuadPattern.the_field Id.the_row).row
scan_pattern = let i = id.the_field_send in let j = id.the_send in search (sendable, crosses) depth 20

read : IsSend (Read.the_field Id.the_row).row
read = let p = scan_pattern in let i = id.the_field_send in let j = id.the_send in search (sendable, crosses) depth 20

scan_pattern_sync : IsSync (QuadPattern.the_field Id.the_row).row
scan_pattern_sync = let i = id.the_field_sync in let j = id.the_sync in search (sendable, crosses) depth 20

read_sync : IsSync (Read.the_field Id.the_row).row
read_sync = let p = scan_pattern_sync in let i = id.the_field_sync in let j = id.the_sync in search (sendable, crosses) depth 20

quad : IsSend (Quad.the_row Id.the_row)
quad = let i = id.the_field_send in search (sendable, crosses) depth 20

known_quad : IsSync (KnownQuad.the_row)
known_quad = search (sendable, crosses) depth 20

known_quad_send : IsSend (KnownQuad.the_row)
known_quad_send = search (sendable, crosses) depth 20

entries : IsSync (Entries.the_field).row
entries = let k = known_quad in let q = quad_sync in search (sendable, crosses) depth 20

entries_send : IsSend (Entries.the_field).row
entries_send = let k = known_quad_send in let q = quad in search (sendable, crosses) depth 20

quad_set : IsSync (QuadSet.the_field).row
quad_set = let e = entries in search (sendable, crosses) depth 20

quad_set_send : IsSend (QuadSet.the_field).row
quad_set_send = let e = entries_send in search (sendable, crosses) depth 20

quad_list : IsSync (QuadList.the_field).row
quad_list = let e = entries in search (sendable, crosses) depth 20

quad_list_send : IsSend (QuadList.the_field).row
quad_list_send = let e = entries_send in search (sendable, crosses) depth 20

pub view : IsSync (View.the_row)
view = let q = quad_set in let i = id.the_sync in search (sendable, crosses) depth 20

quads_row : IsSync (QuadList.the_row)
quads_row = let e = entries in search (sendable, crosses) depth 20

quads_row_send : IsSend (QuadList.the_row)
quads_row_send = let e = entries_send in search (sendable, crosses) depth 20

answer : IsSend (AnswerForm.the_field).row
answer = let q = quads_row_send in let r = quads_row in let i = id.the_send in let j = id.the_sync in search (sendable, crosses) depth 20

answer_sync : IsSync (AnswerForm.the_field).row
answer_sync = let q = quads_row_send in let r = quads_row in let i = id.the_send in let j = id.the_sync in search (sendable, crosses) depth 20

parts : IsSend (Parts.the_row)
parts = let q = quad_set_send in let i = id.the_send in search (sendable, crosses) depth 20

parts_sync : IsSync (Parts.the_row)
parts_sync = let q = quad_set in let i = id.the_sync in search (sendable, crosses) depth 20

order : IsSync (Order.the_row)
order = let e = entries in let a = arrangement.the_field_sync in search (sendable, crosses) depth 20

first_order : IsSync (Order.the_field).row
first_order = let e = entries in let a = arrangement.the_field_sync in search (sendable, crosses) depth 20

index : IsSync (Index.the_row)
index = let o = order in let f = first_order in search (sendable, crosses) depth 20

pub indexed_view : IsSync (IndexedView.the_row)
indexed_view = let v = view in let i = index in search (sendable, crosses) depth 20

answered : IsSend (Answered.the_row)
answered = let a = answer in search (sendable, crosses) depth 20

answered_sync : IsSync (Answered.the_row)
answered_sync = let a = answer_sync in search (sendable, crosses) depth 20

delta : IsSend (Delta.the_row)
delta = let p = parts in let y = parts_sync in search (sendable, crosses) depth 20

note : IsSend (Note.the_row)
note = let a = answered in let r = read in search (sendable, crosses) depth 20

note_sync : IsSync (Note.the_row)
note_sync = let a = answered_sync in let r = read_sync in search (sendable, crosses) depth 20

transcript : IsSend (SharedItems.the_row Note.the_row)
transcript = let n = note in let m = note_sync in search (sendable, crosses) depth 20

finished : IsSend (Finished.the_field).row
finished = let t = transcript in let d = delta in search (sendable, crosses) depth 20

-- ---- the machine

replied : IsSend (Option.the_field Replied.the_row).row
replied = option.the_field_send Replied.the_row a_reply.the_send

passed : IsSend (Option.the_field MachinePass.the_row).row
passed = option.the_field_send MachinePass.the_row a_pass.the_send

seen : IsSend (SeenTerms.the_field).row
seen = search (sendable, crosses) depth 20

seen_quads : IsSend (SeenQuads.the_field).row
seen_quads = let s = seen in search (sendable, crosses) depth 20

change_filter : IsSend (ChangeFilter.the_field).row
change_filter = let q = seen_quads in let n = seen in search (sendable, crosses) depth 20

delta_field : IsSend (Delta.the_field).row
delta_field = let p = parts in let y = parts_sync in search (sendable, crosses) depth 20

order_send : IsSend (Order.the_row)
order_send = let e = entries_send in let a = arrangement.the_field_send in search (sendable, crosses) depth 20

level : IsSend (Level.the_row)
level = let d = delta_field in let o = order_send in search (sendable, crosses) depth 20

settled : IsSend (Settled.the_field).row
settled = let l = level in let f = change_filter in let a = arrangement.the_send in search (sendable, crosses) depth 20

tree : IsSend (StampTree.the_field).row
tree = search (sendable, crosses, trees.crosses) depth 20

event : IsSend (Event.the_field).row
event = let f = finished in let r = read in search (sendable, crosses) depth 20

reply : IsSend (MachineReply.the_field).row
reply = let a = answered in search (sendable, crosses) depth 20

kept_event : IsSend (KeptEvent.the_field).row
kept_event = let e = event in let r = reply in let q = read in let d = delta in let a = a_reply.the_send in search (sendable, crosses) depth 20

journal_entry : IsSend (JournalEntry.the_row)
journal_entry = let k = kept_event in search (sendable, crosses) depth 20

known_quad_field : IsSend (KnownQuad.the_field).row
known_quad_field = search (sendable, crosses) depth 20

entry_form : IsSend (EntryForm.the_field).row
entry_form = let k = known_quad_field in let e = journal_entry in search (sendable, crosses) depth 20

packed_entry : IsSend (PackedEntry.the_row)
packed_entry = let f = entry_form in search (sendable, crosses) depth 20

journal : IsSend (BookJournal.the_row)
journal = let e = packed_entry in search (sendable, crosses) depth 20

boxed_entry : IsSend (Box.the_row JournalEntry.the_row Global.the_row ghosts)
boxed_entry = Box-send JournalEntry.the_row journal_entry

spare : IsSend (Option.the_field (Box.the_row JournalEntry.the_row Global.the_row ghosts)).row
spare = option.the_field_send (Box.the_row JournalEntry.the_row Global.the_row ghosts) boxed_entry

forgotten : IsSend (Option.the_field Answered.the_row).row
forgotten = option.the_field_send Answered.the_row answered

deltas : IsSend (Items.the_row Delta.the_row)
deltas = let d = delta in search (sendable, crosses) depth 20

found_by : IsSend (Option.the_field (Items.the_row Delta.the_row)).row
found_by = option.the_field_send (Items.the_row Delta.the_row) deltas

-- ---- the book, shared

module _ (a : NamedLft) where
  whole_note : IsSend (WholeNote.the_row a)
  whole_note = let r = read in let f = forgotten in let b = found_by in let v = indexed_view in search (sendable, crosses) depth 20

  note_form : IsSend (NoteForm.the_field a).row
  note_form = let k = known_quad_field in let w = whole_note in search (sendable, crosses) depth 20

  lean_note : IsSend (LeanNote.the_row a)
  lean_note = let f = note_form in search (sendable, crosses) depth 20

  noted : IsSend (Noted.the_row a)
  noted = let n = lean_note in search (sendable, crosses) depth 20

  notes : IsSend (Items.the_row (Noted.the_row a))
  notes = let n = noted in search (sendable, crosses) depth 20

  slot : IsSend (Slot.the_row a)
  slot = let n = notes in let d = delta in let s = a_status.the_field_send in let r = replied in let p = passed in search (sendable, crosses) depth 20

  kept_slots : IsSend (KeptSlots.the_field a).row
  kept_slots = let s = slot in let p = change_filter in let t = settled in search (sendable, crosses) depth 20

  slots : IsSend (Slots.the_field a).row
  slots = let k = kept_slots in search (sendable, crosses) depth 20

  machine : IsSend (Machine.the_row a)
  machine = let s = slots in let t = tree in search (sendable, crosses) depth 20

  book : IsSend (Book.the_row a)
  book = let r = requests in let d = dict in let v = indexed_view in let m = machine in let j = journal in let s = spare in search (sendable, crosses) depth 20

  kept : IsSend (Kept.the_row a)
  kept = let b = book in search (sendable, crosses) depth 20

  pub shared : IsSync (SharedBlock.the_row a)
  shared = let l = lock (Kept.the_row a) Subject.the_row Entry.the_row journaled.ghosts kept in search sendable depth 20

  pub passes : IsSend (Pass.the_row a)
  passes = let p = pass (Kept.the_row a) Subject.the_row Entry.the_row journaled.ghosts kept in let v = indexed_view in search sendable depth 20

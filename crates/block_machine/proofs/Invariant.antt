-- What holds of the machine after every history, and how a changed slot keeps it.
use Rattle.std.proofs.Common.{◌≡◌, ◌≢◌, ℕ, ◌<◌, ◌≤◌, ◌⊎◌, inl, inr, Bool, true, false, List, length, Some, slice_set, sym, ap, ◌∙◌, subst, arith, length-set}
use Rattle.std.proofs.lemmas.Bool.{cases_lt, cases_eq}
use Rattle.reads.specs.Reads.{View}
use Rattle.incarnations.specs.declared.state.Status.{Status}
use Rattle.incarnations.specs.declared.state.Status.TheVariants.{Ready, Executing, Executed, Committed as HasCommitted}
use Rattle.incarnations.specs.declared.state.Pass.{Pass}
use Rattle.incarnations.specs.Slots.{Noted, Slot, transcript_of}
use Rattle.incarnations.specs.Statuses.{is_closed}
use Rattle.validate.specs.Below.{slot_at, view_at}
use Rattle.slots.proofs.SlotLaws.{set_same, set_other, view_below, view_same, replies_below}
use Rattle.block_machine.specs.Machine.{State}
use Rattle.block_machine.specs.Serial.{Setting, IsSound, FrontIsSerial}
use Rattle.block_machine.proofs.Known.{Clear, Known}
use Rattle.delta.specs.declared.finished.Finished.{Finished}

-- executed or committed
abbrev pub is_done : Status → Bool
is_done (Executed n) = true
is_done (HasCommitted n) = true
is_done (Ready n) = false
is_done (Executing n by) = false

-- the first k notes have the answers of view(i), unless a lower request has changed after this
-- moment
pub record Holds (base : View) (slots : List Slot) (i moment k : ℕ) (notes : List Noted) : Type 0 where
  pub known : Clear slots i moment → Known (view_at base slots i) k notes

-- a sound finished run has the slot's delta and reply, and the notes as its transcript
pub record Ran (m : Setting) (i : ℕ) (x : Slot) : Type 0 where
  pub finished : Finished
  pub sound : IsSound m i finished
  pub delta : finished.delta ≡ x.delta
  pub reply : x.reply ≡ Some finished.reply
  pub transcript : finished.transcript ≡ transcript_of x.notes

pub record PassHolds (base : View) (slots : List Slot) (clock i : ℕ) (x : Slot) (p : Pass) : Type 0 where
  pub done : is_done x.status ≡ true
  pub start : p.start ≤ clock
  pub next : p.next < length x.notes
  pub holds : Holds base slots i p.start p.next x.notes

pub record StampHolds (base : View) (slots : List Slot) (clock i : ℕ) (x : Slot) (stamp : ℕ) : Type 0 where
  pub done : is_done x.status ≡ true
  pub start : stamp ≤ clock
  pub holds : Holds base slots i stamp (length x.notes) x.notes

-- what holds of one request, whatever the front is
pub record SlotHolds (m : Setting) (slots : List Slot) (clock i : ℕ) (x : Slot) : Type 0 where
  pub ran : is_done x.status ≡ true → Ran m i x
  pub pass : (p : Pass) → x.pass ≡ Some p → PassHolds m.base slots clock i x p
  pub stamp : (s : ℕ) → x.stamp ≡ Some s → StampHolds m.base slots clock i x s
  pub changed : x.changed ≤ clock

-- the committed requests are those below the front
pub record InOrder (front i : ℕ) (x : Slot) : Type 0 where
  pub below : is_closed (Some x.status) ≡ true → i < front
  pub closed : i < front → is_closed (Some x.status) ≡ true

pub record Invariant (m : Setting) (s : State) : Type 0 where
  pub size : length s.slots ≡ m.size
  pub within : s.front ≤ length s.slots
  pub each : (i : ℕ) → i < length s.slots → SlotHolds m s.slots s.clock i (slot_at s.slots i)
  pub order : (i : ℕ) → i < length s.slots → InOrder s.front i (slot_at s.slots i)
  pub serial : FrontIsSerial m s

-- the new slot has the old delta, or has changed after this moment
abbrev pub Steady : List Slot → ℕ → Slot → ℕ → Type 0
Steady slots i x clock = ((x.delta ≡ (slot_at slots i).delta) × ((slot_at slots i).changed ≤ x.changed)) ⊎ (clock < x.changed)

module _ (base : View) (slots : List Slot) (i : ℕ) (x : Slot) (within : i < length slots) (clock : ℕ) where
  changed_le : (slot_at slots i).changed ≤ x.changed → (j : ℕ) → (slot_at slots j).changed ≤ (slot_at (slice_set slots i x) j).changed
  changed_le le j =
      elim (cases_eq j i) [
        | inl e ↦
            let now : slot_at (slice_set slots i x) j ≡ x = ap (slot_at (slice_set slots i x)) e ∙ set_same slots i x within in
            let old : slot_at slots j ≡ slot_at slots i = ap (slot_at slots) e in
            let n = ap (λ (y : Slot). y.changed) now in
            let o = ap (λ (y : Slot). y.changed) old in
            omega (arith, n, o)
        | inr ne ↦ let n = ap (λ (y : Slot). y.changed) (set_other slots i j x ne) in omega (arith, n)
      ]

  -- what was noted as known stays so
  steady_holds : (j moment k : ℕ) (notes : List Noted) → Steady slots i x clock → moment ≤ clock → Holds base slots j moment k notes → Holds base (slice_set slots i x) j moment k notes
  steady_holds j moment k notes (inl same) le h =
      record {
        known = λ clear.
            let before : Clear slots j moment = λ l lt. let a = clear l lt in let b = changed_le same.1 l in omega (arith, a, b) in
            subst (λ v. Known v k notes) (sym (view_same base slots i x within same.0 j)) (h.known before);
      }
  steady_holds j moment k notes (inr new) le h =
      record {
        known = λ clear.
            elim (cases_lt i j) [
              | inl lt ↦
                  let now = ap (λ (y : Slot). y.changed) (set_same slots i x within) in
                  let a = clear i lt in
                  absurd (omega (arith, now, a, new, le))
              | inr ge ↦
                  let before : Clear slots j moment = λ l lt.
                  (let ne : l ≢ i = omega arith in
                  let now = ap (λ (y : Slot). y.changed) (set_other slots i l x ne) in
                  let a = clear l lt in omega (arith, now, a)) in
                  subst (λ v. Known v k notes) (sym (view_below base slots i x j ge)) (h.known before)
            ];
      }

  steady_pass : (clock' : ℕ) (j : ℕ) (y : Slot) (p : Pass) → Steady slots i x clock → clock ≤ clock' → PassHolds base slots clock j y p → PassHolds base (slice_set slots i x) clock' j y p
  steady_pass clock' j y p st le h =
      record { done = h.done; start = omega (arith, h.start); next = h.next; holds = steady_holds j p.start p.next y.notes st h.start h.holds }

  steady_stamp : (clock' : ℕ) (j : ℕ) (y : Slot) (s : ℕ) → Steady slots i x clock → clock ≤ clock' → StampHolds base slots clock j y s → StampHolds base (slice_set slots i x) clock' j y s
  steady_stamp clock' j y s st le h =
      record { done = h.done; start = omega (arith, h.start); holds = steady_holds j s (length y.notes) y.notes st h.start h.holds }

-- the same of a slot, old or new
pub slot_steady : (m : Setting) (slots : List Slot) (i : ℕ) (x : Slot) (within : i < length slots) (clock clock' : ℕ) (j : ℕ) (y : Slot) → Steady slots i x clock → clock ≤ clock' → SlotHolds m slots clock j y → SlotHolds m (slice_set slots i x) clock' j y
slot_steady m slots i x within clock clock' j y st le h =
    record {
      ran = h.ran;
      pass = λ p e. steady_pass m.base slots i x within clock clock' j y p st le (h.pass p e);
      stamp = λ s e. steady_stamp m.base slots i x within clock clock' j y s st le (h.stamp s e);
      changed = omega (arith, h.changed);
    }

-- all slots, where one was replaced by one that holds
pub each_replaced : (m : Setting) (slots : List Slot) (i : ℕ) (x : Slot) (within : i < length slots) (clock clock' : ℕ) → Steady slots i x clock → clock ≤ clock' → SlotHolds m (slice_set slots i x) clock' i x → ((j : ℕ) → j < length slots → SlotHolds m slots clock j (slot_at slots j)) → (j : ℕ) → j < length slots → SlotHolds m (slice_set slots i x) clock' j (slot_at (slice_set slots i x) j)
each_replaced m slots i x within clock clock' st le own each j lt =
    elim (cases_eq j i) [
      | inl e ↦
          let at : x ≡ slot_at (slice_set slots i x) j = sym (ap (slot_at (slice_set slots i x)) e ∙ set_same slots i x within) in
          λ-free at (subst (λ n. SlotHolds m (slice_set slots i x) clock' n x) (sym e) own)
      | inr ne ↦ subst (λ y. SlotHolds m (slice_set slots i x) clock' j y) (sym (set_other slots i j x ne)) (slot_steady m slots i x within clock clock' j (slot_at slots j) st le (each j lt))
    ]
  where
    λ-free : x ≡ slot_at (slice_set slots i x) j → SlotHolds m (slice_set slots i x) clock' j x → SlotHolds m (slice_set slots i x) clock' j (slot_at (slice_set slots i x) j)
    λ-free at h = subst (λ y. SlotHolds m (slice_set slots i x) clock' j y) at h

-- A request that is not committed gets a new slot, which is not committed either.
pub replaced : (m : Setting) (s : State) (i : ℕ) (x : Slot) (clock' : ℕ) → Invariant m s → i < length s.slots → is_closed (Some (slot_at s.slots i).status) ≡ false → is_closed (Some x.status) ≡ false → s.clock ≤ clock' → Steady s.slots i x s.clock → SlotHolds m (slice_set s.slots i x) clock' i x → Invariant m (record { slots = slice_set s.slots i x; clock = clock'; front = s.front })
replaced m s i x clock' inv within was is le st own =
    let len = length-set s.slots i x in
    let behind : s.front ≤ i =
    elim (cases_lt i s.front) [ inl lt ↦ absurd (let c = (inv.order i within).closed lt in let d : true ≡ false = sym c ∙ was in (cc)) | inr ge ↦ ge ] in
    record {
      size = len ∙ inv.size;
      within = let w = inv.within in omega (arith, len, w);
      each = λ j lt. each_replaced m s.slots i x within s.clock clock' st le own inv.each j (omega (arith, len));
      order = λ j lt. (let lt' : j < length s.slots = omega (arith, len) in ordered j lt');
      serial = record {
        dataset = view_below m.base s.slots i x s.front behind ∙ inv.serial.dataset;
        replies = replies_below s.slots i x s.front behind ∙ inv.serial.replies;
      };
    }
  where
    behind' : s.front ≤ i
    behind' = elim (cases_lt i s.front) [ inl lt ↦ absurd (let c = (inv.order i within).closed lt in let d : true ≡ false = sym c ∙ was in (cc)) | inr ge ↦ ge ]

    new_order : InOrder s.front i x
    new_order = record { below = λ e. absurd (let d : true ≡ false = sym e ∙ is in (cc)); closed = λ lt. absurd (let b = behind' in omega (arith, b)) }

    ordered : (j : ℕ) → j < length s.slots → InOrder s.front j (slot_at (slice_set s.slots i x) j)
    ordered j lt =
        elim (cases_eq j i) [
          | inl e ↦
              let at : x ≡ slot_at (slice_set s.slots i x) j = sym (ap (slot_at (slice_set s.slots i x)) e ∙ set_same s.slots i x within) in
              subst (λ y. InOrder s.front j y) at (subst (λ n. InOrder s.front n x) (sym e) new_order)
          | inr ne ↦ subst (λ y. InOrder s.front j y) (sym (set_other s.slots i j x ne)) (inv.order j lt)
        ]

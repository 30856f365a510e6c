-- The model that a list of slots and one of seats show, and how it changes with them.
use Rattle.std.proofs.Common.{◌≡◌, ◌<◌, ◌≤◌, ℕ, List, length, map, refl, sym, ap, subst, ◌∙◌, get_or, Bool, true, false, Option, Some, None, ◌⊎◌, inl, inr}
use Rattle.std.specs.Prelude.{slice_set}
use Rattle.std.proofs.Math.Path.{fun_ext}
use Rattle.std.proofs.lemmas.Bool.{cases_lt}
use Rattle.std.proofs.lemmas.List.{length-set, length-map, map-set}
use Rattle.std.proofs.Math.ListN.{get_or-map}
use Rattle.plx_commands.specs.Model.{Slot, Model, first_slot, images_in, owns}
use Rattle.plx_commands.specs.Moves.{begins_change, model_without_sessions, slot_without_owner, given_up, refused_at, model_at_rest, started_at, under_way, where_owned}
use Rattle.plx_commands.specs.Places.{at}
use Rattle.plx_commands.specs.Slots.{image_after, changed_slot}
use Rattle.plx_commands.specs.declared.command.Command.{Command}
use Rattle.plx_model.specs.Shown.{shown_image, running_of, seat_sessions, slot_of}
use Rattle.plx_model.specs.Tables.{table}
use Rattle.plx_model.specs.declared.seat.Seat.{Seat}
use Rattle.plx_model.specs.declared.slot.SlotState.{SlotState}
use Rattle.plx_model.proofs.Effects.{after_alone}
use Rattle.plx_model.proofs.Tables.{at-again, table-at, table-set, table-past}

-- the model that they show
abbrev pub picture : List SlotState → List Seat → Model
picture slots seats = record {
  images = length slots;
  appliances = length seats;
  slots = table (map slot_of slots) first_slot;
  sessions = table (map seat_sessions seats) (λ slot. false);
  running = table (map running_of seats) None;
}

models-equal : (m n : Model) → m.images ≡ n.images → m.appliances ≡ n.appliances → m.slots ≡ n.slots → m.sessions ≡ n.sessions → m.running ≡ n.running → m ≡ n
models-equal m n p q r s t = λ i. record { images = p i; appliances = q i; slots = r i; sessions = s i; running = t i }

table-map-set : {X Y : Type 0} (f : X → Y) (xs : List X) (k : ℕ) (x : X) (d : Y) → k < length xs → table (map f (slice_set xs k x)) d ≡ at (table (map f xs) d) k (f x)
table-map-set f xs k x d within =
    let within' : k < length (map f xs) = rw (length-map xs f) within in
    ap (λ (ys : List _). table ys d) (map-set f xs k x) ∙ table-set (map f xs) k (f x) d within'

-- one slot changes
picture-slot : (slots : List SlotState) (seats : List Seat) (k : ℕ) (x : SlotState) → k < length slots → picture (slice_set slots k x) seats ≡ record (picture slots seats) { slots = at (picture slots seats).slots k (slot_of x) }
picture-slot slots seats k x in_slots = models-equal _ _ (length-set slots k x) refl (table-map-set slot_of slots k x first_slot in_slots) refl refl

-- a slot changes to one that shows the same
pub picture-same : (slots : List SlotState) (seats : List Seat) (k : ℕ) (x y : SlotState) → k < length slots → x ≡ get_or slots k x → slot_of y ≡ slot_of x → picture (slice_set slots k y) seats ≡ picture slots seats
picture-same slots seats k x y in_slots is same =
    picture-slot slots seats k y in_slots
    ∙ models-equal _ _ refl refl (at-again (picture slots seats).slots k (slot_of y) (table-at slot_of slots k x first_slot in_slots is ∙ sym same)) refl refl

-- an appliance is in another command
pub picture-run : (slots : List SlotState) (seats : List Seat) (a : ℕ) (s t : Seat) → a < length seats → s ≡ get_or seats a s → seat_sessions t ≡ seat_sessions s → picture slots (slice_set seats a t) ≡ record (picture slots seats) { running = at (picture slots seats).running a t.running }
picture-run slots seats a s t in_seats is same =
    models-equal _ _ refl (length-set seats a t) refl
    (table-map-set seat_sessions seats a t (λ slot. false) in_seats
    ∙ at-again (picture slots seats).sessions a (seat_sessions t) (table-at seat_sessions seats a s (λ slot. false) in_seats is ∙ sym same))
    (table-map-set running_of seats a t None in_seats)

-- an appliance rests, with the sessions that its seat has
pub picture-rested : (slots others : List SlotState) (seats now : List Seat) (a : ℕ) (t : Seat) (new_slots : ℕ → Slot) (sessions : ℕ → Bool) → picture others now ≡ record (picture slots seats) { slots = new_slots } →
    a < length now → seat_sessions t ≡ sessions → t.running ≡ None → picture others (slice_set now a t) ≡ model_at_rest (picture slots seats) a new_slots sessions
picture-rested slots others seats now a t new_slots sessions e in_seats has idle =
    models-equal _ _ (ap (λ (z : Model). z.images) e) (length-set now a t ∙ ap (λ (z : Model). z.appliances) e) (ap (λ (z : Model). z.slots) e)
    (table-map-set seat_sessions now a t (λ slot. false) in_seats
    ∙ (ap (λ (z : Model). at z.sessions a (seat_sessions t)) e ∙ ap (λ (z : ℕ → Bool). at (picture slots seats).sessions a z) has))
    (table-map-set running_of now a t None in_seats
    ∙ (ap (λ (z : Model). at z.running a t.running) e ∙ ap (λ (r : Option Command). at (picture slots seats).running a r) idle))

-- an appliance rests, with the sessions that it had
pub kept-rested : (m n : Model) (a : ℕ) (new_slots : ℕ → Slot) → n ≡ record m { slots = new_slots } → record n { running = at n.running a None } ≡ model_at_rest m a new_slots (m.sessions a)
kept-rested m n a new_slots e =
    ap (λ (z : Model). record z { running = at z.running a None }) e
    ∙ models-equal _ _ refl refl refl (sym (at-again m.sessions a (m.sessions a) refl)) refl

-- an owned slot is one that there is
pub owner_within : (slots : List SlotState) (seats : List Seat) (k a : ℕ) → owns ((picture slots seats).slots k).owner a ≡ true → k < length slots
owner_within slots seats k a owner = by_place (cases_lt k (length slots))
  where
    by_place : (k < length slots) ⊎ (length slots ≤ k) → k < length slots
    by_place (inl within) = within
    by_place (inr past) =
        let none : (picture slots seats).slots k ≡ first_slot = table-past (map slot_of slots) k first_slot (rw (length-map slots slot_of) past) in
        absurd (let e : false ≡ true = subst (λ (z : Slot). owns z.owner a ≡ true) none owner in let P : ⊥ = cc in P)

-- a change begins
pub picture-started : (slots : List SlotState) (seats : List Seat) (k a : ℕ) (x y : SlotState) (command : Command) → k < length slots → x ≡ get_or slots k x → changed_slot command ≡ Some k → begins_change (picture slots seats) a command ≡ true →
    slot_of y ≡ under_way (slot_of x) (image_after (λ slot. shown_image x) 0 command) → picture (slice_set slots k y) seats ≡ record (picture slots seats) { slots = started_at (picture slots seats) a command (changed_slot command) }
picture-started slots seats k a x y command in_slots is changes begins e =
    let m : Model = picture slots seats in
    let here : m.slots k ≡ slot_of x = table-at slot_of slots k x first_slot in_slots is in
    let image : image_after (images_in m) k command ≡ image_after (λ slot. shown_image x) 0 command =
    after_alone (images_in m) k command ∙ ap (λ (z : Slot). image_after (λ slot. z.image) 0 command) here in
    let put : slot_of y ≡ under_way (m.slots k) (image_after (images_in m) k command) =
    e ∙ (ap (λ (z : Slot). under_way z (image_after (λ slot. shown_image x) 0 command)) (sym here) ∙ ap (under_way (m.slots k)) (sym image)) in
    let opened : started_at m a command (Some k) ≡ at m.slots k (under_way (m.slots k) (image_after (images_in m) k command)) =
    ap (λ (b : Bool). where_owned b m.slots k (under_way (m.slots k) (image_after (images_in m) k command))) begins in
    let named : started_at m a command (changed_slot command) ≡ started_at m a command (Some k) = ap (started_at m a command) changes in
    picture-slot slots seats k y in_slots ∙ models-equal _ _ refl refl (ap (λ (z : Slot). at m.slots k z) put ∙ sym (named ∙ opened)) refl refl

-- a change is given up
pub picture-refused : (slots : List SlotState) (seats : List Seat) (k a : ℕ) (x y : SlotState) → k < length slots → x ≡ get_or slots k x → owns ((picture slots seats).slots k).owner a ≡ true → slot_of y ≡ given_up (slot_of x) →
    picture (slice_set slots k y) seats ≡ record (picture slots seats) { slots = refused_at (picture slots seats) a (Some k) }
picture-refused slots seats k a x y in_slots is owner e =
    let m : Model = picture slots seats in
    let here : m.slots k ≡ slot_of x = table-at slot_of slots k x first_slot in_slots is in
    let opened : refused_at m a (Some k) ≡ at m.slots k (given_up (m.slots k)) = ap (λ (b : Bool). where_owned b m.slots k (given_up (m.slots k))) owner in
    let put : at m.slots k (slot_of y) ≡ at m.slots k (given_up (m.slots k)) = ap (λ (z : Slot). at m.slots k z) (e ∙ ap given_up (sym here)) in
    picture-slot slots seats k y in_slots ∙ models-equal _ _ refl refl (put ∙ sym opened) refl refl

-- a slot is changed by what makes one slot of another
pub picture-changed : (f : Slot → Slot) (slots : List SlotState) (seats : List Seat) (k : ℕ) (x y : SlotState) → k < length slots → x ≡ get_or slots k x → slot_of y ≡ f (slot_of x) →
    picture (slice_set slots k y) seats ≡ record (picture slots seats) { slots = at (picture slots seats).slots k (f ((picture slots seats).slots k)) }
picture-changed f slots seats k x y in_slots is e =
    let m : Model = picture slots seats in
    let here : m.slots k ≡ slot_of x = table-at slot_of slots k x first_slot in_slots is in
    picture-slot slots seats k y in_slots ∙ models-equal _ _ refl refl (ap (λ (z : Slot). at m.slots k z) (e ∙ ap f (sym here))) refl refl

-- what an appliance's seat has in the model
pub picture-sessions : (slots : List SlotState) (seats : List Seat) (a : ℕ) (s : Seat) → a < length seats → s ≡ get_or seats a s → (picture slots seats).sessions a ≡ seat_sessions s
picture-sessions slots seats a s in_seats is = table-at seat_sessions seats a s (λ slot. false) in_seats is

-- an appliance is forgotten
pub picture-forgotten : (slots others : List SlotState) (seats : List Seat) (a : ℕ) (t : Seat) → map slot_of others ≡ map (λ slot. slot_without_owner slot a) (map slot_of slots) → a < length seats → seat_sessions t ≡ (λ slot. false) → t.running ≡ None → picture others (slice_set seats a t) ≡ model_without_sessions (picture slots seats) a
picture-forgotten slots others seats a t e in_seats none idle =
    let m : Model = picture slots seats in
    let f : Slot → Slot = λ slot. slot_without_owner slot a in
    let long : length others ≡ length slots = sym (length-map others slot_of) ∙ (ap length e ∙ (length-map (map slot_of slots) f ∙ length-map slots slot_of)) in
    let given : table (map slot_of others) first_slot ≡ (λ k. slot_without_owner (m.slots k) a) =
    ap (λ (xs : List Slot). table xs first_slot) e ∙ fun_ext (λ k. get_or-map f (map slot_of slots) k first_slot) in
    models-equal _ _ long (length-set seats a t) given
    (table-map-set seat_sessions seats a t (λ slot. false) in_seats ∙ ap (λ (z : ℕ → Bool). at m.sessions a z) none)
    (table-map-set running_of seats a t None in_seats ∙ ap (λ (r : Option Command). at m.running a r) idle)

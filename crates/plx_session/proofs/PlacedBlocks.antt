-- The blocks of a journal's writes lie one after another.
use Rattle.std.proofs.Common.{◌≡◌, ℕ, ◌+◌, ◌*◌, ◌<◌, ◌≤◌, List, [], ◌∷◌, ◌++◌, length, take, drop, get_or, map, refl, subst, sym, ap, ◌∙◌, arith}
use Rattle.std.specs.List.{insert}
use Rattle.std.proofs.lemmas.List.{take_all, take-append-le, drop-append-le, drop_at, length-drop, length-map, map-append, take-map, drop-map, get_or-map}
use Rattle.std.proofs.lemmas.List.Edits.{insert_end}
use Rattle.std.proofs.lemmas.List.Elements.{All-head, All-tail}
use Rattle.plx_rules.specs.Journaled.{Journaled}
use Rattle.plx_session.specs.PlacedWrites.{AreWithinBlocks, block_in, write_in, writes_in}
use Rattle.plx_session.specs.declared.journal.PlacedWrite.{PlacedWrite}

-- more bytes leave the blocks before them as they were
block-kept : (bytes more : List ℕ) (place : ℕ) → 4096 * place + 4096 ≤ length bytes → block_in (bytes ++ more) place ≡ block_in bytes place
unfolding block_in
block-kept bytes more place within =
    let long = length-drop (4096 * place) bytes in
    ap (take 4096) (drop-append-le (4096 * place) bytes more (omega (arith, within)))
    ∙ take-append-le 4096 (drop (4096 * place) bytes) more (omega (arith, within, long))

-- the bytes that come last are the last block
block-last : (bytes block : List ℕ) (count : ℕ) → length bytes ≡ 4096 * count → length block ≡ 4096 → block_in (bytes ++ block) count ≡ block
unfolding block_in
block-last bytes block count long whole =
    ap (take 4096) (drop_at bytes block (4096 * count) long) ∙ take_all 4096 block (omega (arith, whole))

-- more bytes leave the writes as they were
writes-kept : (bytes more : List ℕ) (count : ℕ) (writes : List PlacedWrite) → 4096 * count ≤ length bytes → AreWithinBlocks count writes → writes_in (bytes ++ more) writes ≡ writes_in bytes writes
unfolding writes_in
writes-kept bytes more count [] long places = refl
writes-kept bytes more count (write ∷ writes) long places =
    let P : PlacedWrite → Type 0 = λ w. w.place < count in
    let here : write.place < count = All-head P write writes places in
    let same : write_in (bytes ++ more) write ≡ write_in bytes write =
    ap (λ (b : List ℕ). let j : Journaled = record { number = write.number; vblock = write.vblock; block = b } in j) (block-kept bytes more write.place (omega (arith, here, long))) in
    ap (λ (w : Journaled). w ∷ map (write_in (bytes ++ more)) writes) same
    ∙ ap (λ (ws : List Journaled). write_in bytes write ∷ ws) (writes-kept bytes more count writes long (All-tail P write writes places))

-- one more write among the others
pub writes-inserted : (bytes block : List ℕ) (count index number vblock : ℕ) (writes : List PlacedWrite) → length bytes ≡ 4096 * count → length block ≡ 4096 → AreWithinBlocks count writes →
    writes_in (bytes ++ block) (insert writes index (record { number = number; vblock = vblock; place = count })) ≡ insert (writes_in bytes writes) index (record { number = number; vblock = vblock; block = block })
unfolding writes_in
writes-inserted bytes block count index number vblock writes long whole places =
    let new : PlacedWrite = record { number = number; vblock = vblock; place = count } in
    let f = write_in (bytes ++ block) in
    let same : f new ≡ record { number = number; vblock = vblock; block = block } =
    ap (λ (b : List ℕ). let j : Journaled = record { number = number; vblock = vblock; block = b } in j) (block-last bytes block count long whole) in
    let others : map f writes ≡ map (write_in bytes) writes = writes-kept bytes block count writes (omega (arith, long)) places in
    map-append f (take index writes) (new ∷ drop index writes)
    ∙ ap (λ (ws : List Journaled). ws ++ f new ∷ map f (drop index writes)) (sym (take-map f index writes))
    ∙ ap (λ (ws : List Journaled). take index (map f writes) ++ f new ∷ ws) (sym (drop-map f index writes))
    ∙ ap (λ (w : Journaled). take index (map f writes) ++ w ∷ drop index (map f writes)) same
    ∙ ap (λ (ws : List Journaled). insert ws index (record { number = number; vblock = vblock; block = block })) others

-- how many writes there are
pub length-writes : (bytes : List ℕ) (writes : List PlacedWrite) → length (writes_in bytes writes) ≡ length writes
unfolding writes_in
length-writes bytes writes = length-map writes (write_in bytes)

-- the write at an index, with its bytes
pub write-at : (bytes : List ℕ) (writes : List PlacedWrite) (i : ℕ) (d : PlacedWrite) → i < length writes →
    let write = write_in bytes (get_or writes i d) in (i < length (writes_in bytes writes)) × (write ≡ get_or (writes_in bytes writes) i write)
unfolding writes_in
write-at bytes writes i d within =
    let f = write_in bytes in (
      omega (arith, within, length-map writes f),
      sym (get_or-map f writes i d (f (get_or writes i d)) within),
    )

-- so of a write that was read there
pub write-is : (bytes : List ℕ) (writes : List PlacedWrite) (i : ℕ) (write : PlacedWrite) → i < length writes → write ≡ get_or writes i write →
    (i < length (writes_in bytes writes)) × (write_in bytes write ≡ get_or (writes_in bytes writes) i (write_in bytes write))
write-is bytes writes i write within is =
    let read = write-at bytes writes i write within in
    subst (λ (w : PlacedWrite). (i < length (writes_in bytes writes)) × (write_in bytes w ≡ get_or (writes_in bytes writes) i (write_in bytes w))) (sym is) read

-- past the last of the one list is past the last of the other
pub writes-past : (bytes : List ℕ) (writes : List PlacedWrite) (i : ℕ) → length writes ≤ i → length (writes_in bytes writes) ≤ i
writes-past bytes writes i past = omega (arith, past, length-writes bytes writes)

-- one more write after the others
pub writes-pushed : (bytes : List ℕ) (writes : List PlacedWrite) (new : Journaled) → insert (writes_in bytes writes) (length writes) new ≡ writes_in bytes writes ++ new ∷ []
writes-pushed bytes writes new = rw (← length-writes bytes writes) (insert_end (writes_in bytes writes) new)

-- The issued writes of an appliance, by their numbers.
use Rattle.std.specs.Prelude.{◌≡◌, ◌+◌, ◌-◌, ℕ, List, [], ◌∷◌, length, slice_get, Option, Some, Bool, true, false}
use Rattle.plx_disk.specs.Writes.{Issued}
use Rattle.plx_rules.specs.World.{is_boot_of}

-- one more number before others, where it is counted
abbrev pub with_number_if : Bool → ℕ → List ℕ → List ℕ
with_number_if true number numbers = number ∷ numbers
with_number_if false number numbers = numbers

-- the numbers of an appliance's writes, the oldest first, where the writes are numbered from this number on
abbrev pub own_numbers : (appliance first : ℕ) → List Issued → List ℕ
own_numbers appliance first [] = []
own_numbers appliance first (write ∷ writes) = with_number_if (is_boot_of appliance write.owner) first (own_numbers appliance (first + 1) writes)

-- the write that is waited for, if one is, is the newest of these
abbrev pub WaitsForNewest : (pending : Option ℕ) → (numbers : List ℕ) → Type 0
WaitsForNewest pending numbers = (number : ℕ) → pending ≡ Some number → slice_get numbers (length numbers - 1) ≡ Some number

-- What the table of sizes says of a type.
use Rattle.std.proofs.Common.{◌≡◌, ◌≤◌, ℕ, false, Some, arith}
use Rattle.std.proofs.lemmas.Bool.Decides.{nat_tests}
use Rattle.of_formats.specs.{declared.messages.Size.Size, declared.messages.Size.TheVariants.Least, Messages.is_bad_size, Messages.message_row}
use Rattle.of_messages.specs.Heads.{size_by_type}

-- a PACKET_OUT has its fixed part
pub fixed_part : (type size : ℕ) (row : Size) → type ≡ 13 → size_by_type type ≡ Some row → is_bad_size (Some row) size ≡ false → 24 ≤ size
unfolding message_row
fixed_part type size row is found good =
    let least : Least 24 ≡ row = (let e : Some (Least 24) ≡ Some row = rw is at found in cc) in
    let test : is_bad_size (Some (Least 24)) size ≡ false = rw (← least) at good in
    grind (arith, nat_tests)

-- Files that are opened or made when they are first used.
use Rattle.std.specs.Prelude.{ℕ, List, Option}
use Rattle.std.specs.Prelude.{option_and_then}

-- the path of a file, and the file once it is there
pub record LateFile (F : Type 0) : Type 0 where
  pub path : List ℕ
  pub file : Option F

-- the bytes that are known of a file, which are none before it is there
abbrev pub known_bytes : {F : Type 0} → (F → Option (List ℕ)) → LateFile F → Option (List ℕ)
known_bytes bytes_of late = option_and_then bytes_of late.file

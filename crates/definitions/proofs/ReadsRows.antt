-- What `specs/ReadsRows.antt` says holds, by computation. Assumes nothing.
use mathlib.Core.Path.{refl}
use Rattle.definitions.specs.ReadsRows.{InstructionsUse, TerminatorsRead, Equal, test_rows, TestRowsHold}
use Rattle.definitions.proofs.All.{all_of}

pub instructions_use : InstructionsUse
instructions_use = record {
  const = λ t v. refl;
  binary = λ op t l r. refl;
  load = λ t b o. refl;
  store = λ b o v. refl;
  state_read = λ t s. refl;
  state_write = λ s v. refl;
  read_local = λ l t. refl;
  write_local = λ l v. refl;
  call = λ f a t. refl;
  assert = λ c. refl;
  poseidon = λ l r. refl;
  emit = λ e a. refl;
  context_read = λ k. refl;
}

pub terminators_read : TerminatorsRead
terminators_read = record { jump = λ k. refl; branch = λ v t e. refl; return_none = refl; return_some = λ v. refl; unreachable = refl }

pub test_rows_hold : TestRowsHold
test_rows_hold =
    all_of Equal test_rows
    refl  -- second_not_held
    refl  -- first_not_held
    refl  -- both_held
    refl  -- second_not_written
    refl  -- first_not_written
    refl  -- both_written
    refl  -- first_of_none

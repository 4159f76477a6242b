-- The clauses of `specs/RunClauses.antt` hold, by computation. Assumes nothing.
use mathlib.Core.Path.{refl}
use Rattle.definitions.specs.Run.{holds, held_at_entry, enter, follow, step_entry, step, steps, start, run}
use Rattle.definitions.specs.RunClauses.{RunClauses}

pub run_clauses : RunClauses
unfolding enter follow step_entry step steps start run
run_clauses = record {
  starts = λ f ws. record { no_block = refl; first = λ b bs. refl; runs = λ picks. refl; no_pick = λ s. refl; one_pick = λ p ps s. refl };
  entering = λ f ws k held written. record {
    by_id = refl;
    not_there = refl;
    no_terminator = λ i is. refl;
    closed = λ i is t. refl;
    first_listed = λ e. rw (e, held_at_entry);
    another = λ e. rw (e, held_at_entry);
    is_listed = λ b bs. refl;
    none_listed = refl;
    no_parameter = refl;
    no_word = λ p ps. refl;
    one_word = λ p ps w. refl;
  };
  stepping = λ f ws p s. record {
    goes_on = refl;
    after_end = refl;
    after_lack = refl;
    value_lacks = λ n ns e. rw (e, step_entry);
    local_lacks = λ n ns e g. rw (e, g, step_entry);
    instruction = λ n ns e g. rw (e, g, step_entry);
    end_lacks = λ e. rw (e, step_entry);
    terminator = λ e. rw (e, step_entry);
    no_result = refl;
    result = λ v. refl;
  };
  following = λ f ws way written. record { jump = λ k. refl; branch_then = λ v t e. refl; branch_else = λ v t e. refl; return_none = refl; return_some = λ v. refl; unreachable = refl };
  holding = λ v vs hs ls. record { no_entry = refl; entry = λ h e. rw (e, holds); later = λ h e. rw (e, holds); no_value = refl; values = refl; no_local = refl; locals = refl };
}

-- `verify::verify_instr`: by what the instruction is. Assumes nothing.
use Rattle.ir.proofs.Exits.{exit}
use Rattle.verify_state.proofs.Steps.{says_all}
use Rattle.verify.proofs.Instrs.{const, binary, load, state_read, state_write, read_local, assert, emit, context_read, handed, second, store, write_local, call, poseidon}
use Rattle.verify.proofs.verify_instr.Goals as goal

pub returns-in-Const : goal.returns-in-Const
returns-in-Const c = const c.args.f c.in-Const.is

pub returns-in-Binary : goal.returns-in-Binary
returns-in-Binary c = binary c.args.f c.in-Binary.is c.check_operands.ensures

pub returns-in-Load : goal.returns-in-Load
returns-in-Load c = load c.args.f c.in-Load.is c.check_use.ensures

pub returns-in_err-check_use-in-Store : goal.returns-in_err-check_use-in-Store
returns-in_err-check_use-in-Store c = handed (store c.args.f c.in-Store.is) (exit c.from_residual.ensures.1) c.in_err-check_use-in-Store.ensures

pub returns-in_ok-check_use-in-Store : goal.returns-in_ok-check_use-in-Store
returns-in_ok-check_use-in-Store c = second (store c.args.f c.in-Store.is) c.in_ok-check_use-in-Store.ensures c.check_use-in-Store-2.ensures

pub returns-in-StateRead : goal.returns-in-StateRead
returns-in-StateRead c = state_read c.args.f c.in-StateRead.is

pub returns-in-StateWrite : goal.returns-in-StateWrite
returns-in-StateWrite c = state_write c.args.f c.in-StateWrite.is c.check_use-in-StateWrite.ensures

pub returns-in-ReadLocal : goal.returns-in-ReadLocal
returns-in-ReadLocal c = read_local c.args.f c.in-ReadLocal.is c.check_local.ensures

pub returns-in_err-check_local-in-WriteLocal : goal.returns-in_err-check_local-in-WriteLocal
returns-in_err-check_local-in-WriteLocal c = handed (write_local c.args.f c.in-WriteLocal.is) (exit c.from_residual-in_err-check_local-in-WriteLocal.ensures.1) (says_all _ c.in_err-check_local-in-WriteLocal.ensures)

pub returns-in_ok-check_local-in-WriteLocal : goal.returns-in_ok-check_local-in-WriteLocal
returns-in_ok-check_local-in-WriteLocal c = second (write_local c.args.f c.in-WriteLocal.is) (says_all _ c.in_ok-check_local-in-WriteLocal.ensures) c.check_use-in-WriteLocal.ensures

pub returns-in_err-check_function-in-Call : goal.returns-in_err-check_function-in-Call
returns-in_err-check_function-in-Call c = handed (call c.args.f c.in-Call.is) (exit c.from_residual-in_err-check_function-in-Call.ensures.1) (says_all _ c.in_err-check_function-in-Call.ensures)

pub returns-in_ok-check_function-in-Call : goal.returns-in_ok-check_function-in-Call
returns-in_ok-check_function-in-Call c = second (call c.args.f c.in-Call.is) (says_all _ c.in_ok-check_function-in-Call.ensures) c.check_values.ensures

pub returns-in-Assert : goal.returns-in-Assert
returns-in-Assert c = assert c.args.f c.in-Assert.is c.check_use-in-Assert.ensures

pub returns-in_err-check_use-in-Poseidon : goal.returns-in_err-check_use-in-Poseidon
returns-in_err-check_use-in-Poseidon c = handed (poseidon c.args.f c.in-Poseidon.is) (exit c.from_residual-in_err-check_use-in-Poseidon.ensures.1) c.in_err-check_use-in-Poseidon.ensures

pub returns-in_ok-check_use-in-Poseidon : goal.returns-in_ok-check_use-in-Poseidon
returns-in_ok-check_use-in-Poseidon c = second (poseidon c.args.f c.in-Poseidon.is) c.in_ok-check_use-in-Poseidon.ensures c.check_use-in-Poseidon-2.ensures

pub returns-in-Emit : goal.returns-in-Emit
returns-in-Emit c = emit c.args.f c.in-Emit.is c.check_values-in-Emit.ensures

pub returns-in-ContextRead : goal.returns-in-ContextRead
returns-in-ContextRead c = context_read c.args.f c.in-ContextRead.is

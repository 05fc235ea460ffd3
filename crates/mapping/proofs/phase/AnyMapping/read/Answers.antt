use Rattle.std.proofs.Common.{◌≡◌, ◌<◌, ℕ, List, Option, None, Some, MatchOption, Err, length, rules, arith}
use Rattle.std.specs.Option.{ok_or}
use Rattle.std.proofs.lemmas.Result.{err_from_is_err_and}
use Rattle.mapping.specs.declared.fault.ReadFault.{ReadFault}
use Rattle.mapping.specs.declared.fault.ReadFault.TheVariants.{NoSuchStep}
use Rattle.mapping.specs.Tables.{Leads, NoneLeads}
use Rattle.mapping.specs.TablesLemmas.{none_leads}
use Rattle.mapping.specs.Numbers.{number_of_bits}
use Rattle.bits.specs.Numbers.{bits_bits, length_bits}
use Rattle.std.proofs.lemmas.List.{reverse-reverse}
use Rattle.mapping.proofs.Wholes.{take_whole, none_after}
use Rattle.mapping.proofs.phase.AnyMapping.read.Goals as goal

-- what is known, and the fault, where no step is found
no_step : (steps : List ℕ) (q prior next : ℕ) (o : Option ℕ) (e : ReadFault) → MatchOption o (NoneLeads steps q next (length steps)) (λ i. (i < length steps) × Leads steps q next i) → q ≡ prior → Err e ≡ ok_or o NoSuchStep → NoneLeads steps prior next (length steps) × (e ≡ NoSuchStep)
no_step steps q prior next None e m l h = (rw l at m, cc)
no_step steps q prior next (Some i) e m l h = absurd cc

pub returns-in_err-number : goal.returns-in_err-number
returns-in_err-number g c =
    let p = err_from_is_err_and c.from_residual.result c.from_residual.ensures.1 in
    let n = no_step c.steps.result.now _ c.args.prior c.args.next c.find_step.result c.in_err-number.field-0.0 c.find_step.ensures (omega arith) c.in_err-number.ensures.value in
    rw (p.1, p.2, n.1) (search (rules, none_leads))

-- With what holds of a part that is the whole, and of reversing twice: of bits written in part or turned round, the check
-- asks what they say.
pub returns : goal.returns
returns g c =
    let f = number_of_bits (length c.args.bits.now) c.in_ok-number.number in search (rules, bits_bits, length_bits, take_whole, none_after, reverse-reverse)

-- Only the last block that begins at the address or before it can hold the bytes.
use Rattle.std.proofs.Common.{◌≡◌, ◌≤◌, ◌-◌, Bool, leb, leb-true, get_or, subst, sym, ap, ◌∙◌, arith}
use Rattle.std.specs.Prelude.{IsTrue, ◌↔◌}
use Rattle.std.specs.List.{AllPairs}
use Rattle.std.proofs.lemmas.Bool.{false≢true, le-leb}
use Rattle.object_memory.specs.declared.data_block.DataBlock.{DataBlock}
use Rattle.object_memory.specs.Memory.{MachineView, Inside}
use Rattle.object_memory.specs.WellFormed.{EndsBefore}
use Rattle.object_memory.proofs.Search.{none_inside, inside_answer, last_begins, holds_if, holds_then, too_long}
use Rattle.object_memory.proofs.machine.Machine.in_block.Goals as goal

pub returns-then-n-eq0-clause-inside : goal.returns-then-n-eq0-clause-inside
returns-then-n-eq0-clause-inside c =
    let xs = c.deref.result.now in let at = c.args.at in let n = c.args.n in let before = c.count_up_to-before.result in
    let same : xs ≡ c.args.self.now.blocks = c.deref.ensures.value ∙ ap (λ (k : MachineView). k.blocks) c.self.view_is in
    let apart = subst (AllPairs EndsBefore) (sym c.deref.ensures.value) c.self.invariant.apart in
    let never = none_inside xs at n before apart c.count_up_to-before.ensures.bound c.count_up_to-before.ensures.point c.then-n-eq0.either (record { address = 0; length = 0 }) in
    (λ t. absurd (false≢true t), λ held. absurd (never (subst (λ l. Inside l at n) (sym same) held)))

pub overflow_sub-result : goal.overflow_sub-result
overflow_sub-result c =
    let xs = c.deref.result.now in let at = c.args.at in let before = c.count_up_to-before.result in let b = c.index-block.result.now in
    let apart = subst (AllPairs EndsBefore) (sym c.deref.ensures.value) c.self.invariant.apart in
    let some : 1 ≤ before = omega (arith, c.if-before-eq0.false) in
    let is : b ≡ get_or xs (before - 1) b = c.index-block.ensures ∙ ap (λ l. get_or l (before - 1) b) (sym c.deref.ensures.value) in
    subst (λ (k : DataBlock). k.address ≤ at) (sym is) (last_begins xs at c.args.n before apart c.count_up_to-before.ensures.bound c.count_up_to-before.ensures.point b some)

pub returns-then-n-length-clause-inside : goal.returns-then-n-length-clause-inside
returns-then-n-length-clause-inside c =
    let xs = c.deref.result.now in let at = c.args.at in let n = c.args.n in let before = c.count_up_to-before.result in let b = c.index-block.result.now in
    let same : xs ≡ c.args.self.now.blocks = c.deref.ensures.value ∙ ap (λ (k : MachineView). k.blocks) c.self.view_is in
    let apart = subst (AllPairs EndsBefore) (sym c.deref.ensures.value) c.self.invariant.apart in
    let one : 1 ≤ before = omega (arith, c.if-before-eq0.false) in let some : 1 ≤ n = omega (arith, c.if-n-eq0.false) in
    let is : b ≡ get_or xs (before - 1) b = c.index-block.ensures ∙ ap (λ l. get_or l (before - 1) b) (sym c.deref.ensures.value) in
    let low : b.address ≤ at = subst (λ (k : DataBlock). k.address ≤ at) (sym is) (last_begins xs at n before apart c.count_up_to-before.ensures.bound c.count_up_to-before.ensures.point b one) in
    let r : Bool = leb (at - b.address) (b.length - n) in
    subst (λ l. IsTrue r ↔ Inside l at n) same
    (inside_answer xs at n before apart c.count_up_to-before.ensures.bound c.count_up_to-before.ensures.point b b r is some one (holds_if at n b low c.if-n-length.true) (holds_then at n b c.if-n-length.true))

pub returns-else-n-length-clause-inside : goal.returns-else-n-length-clause-inside
returns-else-n-length-clause-inside c =
    let xs = c.deref.result.now in let at = c.args.at in let n = c.args.n in let before = c.count_up_to-before.result in let b = c.index-block.result.now in
    let same : xs ≡ c.args.self.now.blocks = c.deref.ensures.value ∙ ap (λ (k : MachineView). k.blocks) c.self.view_is in
    let apart = subst (AllPairs EndsBefore) (sym c.deref.ensures.value) c.self.invariant.apart in
    let one : 1 ≤ before = omega (arith, c.if-before-eq0.false) in let some : 1 ≤ n = omega (arith, c.if-n-eq0.false) in
    let is : b ≡ get_or xs (before - 1) b = c.index-block.ensures ∙ ap (λ l. get_or l (before - 1) b) (sym c.deref.ensures.value) in
    let r : Bool = leb n b.length in
    subst (λ l. IsTrue r ↔ Inside l at n) same
    (inside_answer xs at n before apart c.count_up_to-before.ensures.bound c.count_up_to-before.ensures.point b b r is some one (λ t. absurd (omega (arith, leb-true _ _ t, c.if-n-length.false)))
    (λ holds. le-leb n b.length (too_long at n b holds)))

use Rattle.std.proofs.Common.{◌≡◌, ◌<◌, ℕ, List, All, length, get_or, map, drop, nat_eq, slice_get, slice_index, sym, ap, subst, ◌∙◌, arith}
use Rattle.std.specs.List.{filter_map, position_or_len}
use Rattle.prototype_lowering.specs.Directory.{directory_of, number}
use Rattle.prototype_lowering.specs.Lowering.{iface_of, library_of}
use Rattle.prototype_lowering.specs.Numbering.{IsNumberingOf, IsSayableIface}
use Rattle.prototype_lowering.proofs.DirectoryLaws.{in_directory, length_directory, numbers_within}
use Rattle.prototype_lowering.proofs.LoweredLists.{take_written}
use Rattle.prototype_lowering.proofs.Sayable.{all_sayable}
use Rattle.prototype_lowering.proofs.ScopeFacts.{all_by}
use Rattle.prototype_lowering.proofs.lowering.build.Goals as goal

pub write_numbers-requires-clause-few : goal.write_numbers-requires-clause-few
write_numbers-requires-clause-few c =
    let order : c.as_slice-2.result.now ≡ directory_of c.args.scope.now.ifaces =
    c.as_slice-2.ensures ∙ c.in_ok-order.ensures ∙ ap directory_of c.as_slice.ensures
    in omega (
      arith,
      ap length order,
      length_directory c.args.scope.now.ifaces
          c.requires.accepted.named_once,
      c.requires.few,
    )

pub write_numbers-requires-clause-within : goal.write_numbers-requires-clause-within
write_numbers-requires-clause-within c = λ k d h.
    let ifaces = c.args.scope.now.ifaces
    in let order : c.in_ok-order.order ≡ directory_of c.args.scope.now.ifaces =
    c.in_ok-order.ensures ∙ ap directory_of c.as_slice.ensures
    in let bound : get_or c.as_slice-2.result.now k d < length c.args.scope.now.ifaces =
    subst (λ (xs : List ℕ). (k d : ℕ) → k < length xs
    → get_or xs k d < length c.args.scope.now.ifaces) (sym (c.as_slice-2.ensures ∙ order))
    (all_by (λ (x : ℕ). x < length c.args.scope.now.ifaces)
    (directory_of c.args.scope.now.ifaces)
    (numbers_within c.args.scope.now.ifaces c.requires.accepted.named_once)) k d h
    in let many : length c.as_mut_slice.result.now ≡ length c.args.scope.now.ifaces =
    omega (
      arith,
      c.as_mut_slice.ensures.len,
      c.in_ok-numbers.ensures.len,
      c.len.ensures,
      ap
          length order,
      length_directory c.args.scope.now.ifaces c.requires.accepted.named_once,
    )
    in omega (arith, bound, many)

pub lower_ifaces-requires : goal.lower_ifaces-requires
lower_ifaces-requires c =
    let order : c.in_ok-order.order ≡ directory_of c.args.scope.now.ifaces =
    c.in_ok-order.ensures ∙ ap directory_of c.as_slice.ensures
    in let many : length c.as_slice-3.result.now ≡ length c.args.scope.now.ifaces =
    omega (
      arith,
      c.as_slice-3.ensures.len,
      c.in_ok-numbers.ensures.len,
      c.len.ensures,
      ap
          length order,
      length_directory c.args.scope.now.ifaces c.requires.accepted.named_once,
    )
    in subst (λ (n : ℕ). All (IsSayableIface n) c.args.scope.now.ifaces) (sym many)
    (all_sayable c.args.scope.now c.requires.accepted c.requires.narrow)

pub returns : goal.returns
unfolding library_of
returns c =
    let order : c.in_ok-order.order ≡ directory_of c.args.scope.now.ifaces =
    c.in_ok-order.ensures ∙ ap directory_of c.as_slice.ensures
    in let written : c.as_slice-2.result.now ≡ directory_of c.args.scope.now.ifaces =
    c.as_slice-2.ensures ∙ order
    in let kept : length c.write_numbers.new.numbers ≡ length c.as_mut_slice.result.now =
    omega arith
    in let long : c.in_ok-numbers.numbers.len ≡ length c.write_numbers.new.numbers =
    omega (arith, c.as_mut_slice.ensures.len, kept)
    in let numbers : c.as_slice-3.result.now ≡ c.write_numbers.new.numbers =
    c.as_slice-3.ensures.value
    ∙ take_written c.write_numbers.new.numbers
    (drop (length c.write_numbers.new.numbers) c.in_ok-numbers.numbers.items)
    c.in_ok-numbers.numbers.len long
    in let many : length c.as_slice-3.result.now ≡ length c.args.scope.now.ifaces =
    omega (
      arith,
      c.as_slice-3.ensures.len,
      c.in_ok-numbers.ensures.len,
      c.len.ensures,
      ap
          length order,
      length_directory c.args.scope.now.ifaces c.requires.accepted.named_once,
    )
    in let numbering : IsNumberingOf (directory_of c.args.scope.now.ifaces)
    c.as_slice-3.result.now = λ k h.
    ap (λ (ns : List ℕ). slice_index ns k) numbers
    ∙ c.write_numbers.ensures k
    (subst (λ (xs : List ℕ). position_or_len (nat_eq k) xs < length xs) (sym written)
    (in_directory c.args.scope.now.ifaces c.requires.accepted.named_once k
    (omega (arith, h, many))))
    ∙ ap (λ (d : List ℕ). number d k) written
    in λ j. record {
      ifaces = (c.in_ok-ifaces.ensures (directory_of c.args.scope.now.ifaces) numbering
          ∙ ap (λ (o : List ℕ). map (iface_of (directory_of c.args.scope.now.ifaces))
          (filter_map (slice_get c.args.scope.now.ifaces) o)) (c.as_slice-4.ensures ∙ order)) j;
    }

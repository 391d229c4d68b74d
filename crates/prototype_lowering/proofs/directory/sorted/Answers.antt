use Rattle.std.proofs.Common.{◌≡◌, ◌≤◌, ℕ, List, [], IfOk, length, refl, sym, ap, subst, ◌∙◌, arith}
use Rattle.std_collections.specs.Map.{values_of}
use Rattle.prototype_lowering.specs.Directory.{entered, key_cmp, key_of}
use Rattle.std_collections.specs.BTreeMap.{insert_entry}
use Rattle.prototype_lowering.proofs.Entries.{entered_all, entered_more, plain, plain_inserted, plain_key, plain_values}
use Rattle.prototype_lowering.proofs.directory.sorted.Goals as goal

pub loop-k-init : goal.loop-k-init
loop-k-init c = λ j. entered (plain (c.new-map.ensures.empty j)) 0 c.args.ifaces.now

pub loop-k-preserved : goal.loop-k-preserved
loop-k-preserved c =
    let key : plain_key c.key_of.result ≡ key_of c.index-ifaces-k.result =
    λ j. (c.key_of.ensures.iid j, c.key_of.ensures.name j)
    in let inserted : plain c.insert.new.self.entries
    ≡ insert_entry key_cmp (plain c.loop-k.map.entries) (key_of c.index-ifaces-k.result)
    c.loop-k.k =
    ap plain c.in_ok-insert.ensures.entries
    ∙ plain_inserted _ (λ a b. refl) c.loop-k.map.entries c.key_of.result c.loop-k.k
    ∙ ap (λ k. insert_entry key_cmp (plain c.loop-k.map.entries) k c.loop-k.k) key
    in entered_more c.args.ifaces.now (plain c.loop-k.map.entries) (plain c.insert.new.self.entries)
    c.loop-k.k c.index-ifaces-k.result c.loop-k-test.true c.index-ifaces-k.is inserted
    ∙ c.loop-k.invariant

pub returns : goal.returns
returns c =
    let past : length c.args.ifaces.now ≤ c.loop-k.k = omega arith
    in let all : plain c.loop-k.map.entries ≡ entered [] 0 c.args.ifaces.now =
    sym (entered_all c.args.ifaces.now (plain c.loop-k.map.entries) c.loop-k.k past)
    ∙ c.loop-k.invariant
    in let P : List ℕ → Type 0 = λ x. IfOk c.in_key_order.result (λ order. order ≡ x)
    in subst P (plain_values c.loop-k.map.entries ∙ ap values_of all) c.in_key_order.ensures

use Rattle.std.proofs.Common.{◌≡◌, ◌<◌, length, sym, ap, ◌∙◌, subst}
use Rattle.std.specs.Prelude.{All}
use Rattle.std_collections.specs.BTreeMap.{insert_entry}
use Rattle.std_collections.specs.Map.{values_of}
use Rattle.header_text.specs.Order.{spot_cmp, spot_of}
use Rattle.header_text.proofs.Definitions.{defined_more, numbers_more, undefined_more}
use Rattle.header_text.proofs.order.definitions.Goals as goal
use Rattle.header_text.proofs.order.definitions.Goals.{then-iface+in_ok-insert, else-iface}

pub loop-k-preserved : goal.loop-k-preserved
loop-k-preserved c =
    let es = c.loop-k.map.entries
    in let i = c.index-ifaces-k.result
    in elim c.if-iface.branch [
      | then-iface+in_ok-insert w ↦
          let inserted : c.if-iface.map.entries ≡ insert_entry spot_cmp es (spot_of i) c.loop-k.k =
          ap (λ m. m.entries) w.map-is ∙ w.in_ok-insert.ensures.entries
          in record {
            placed = defined_more c.args.ifaces.now es c.if-iface.map.entries c.loop-k.k i
                c.loop-k-test.true c.index-ifaces-k.is w.if-iface.true inserted
                ∙ c.loop-k.invariant.placed;
            within = numbers_more c.args.ifaces.now es c.if-iface.map.entries c.loop-k.k (spot_of i)
                c.loop-k-test.true c.loop-k.invariant.within inserted;
          }
      | else-iface w ↦
          let same : c.if-iface.map.entries ≡ es = ap (λ m. m.entries) w.map-is
          in record {
            placed = undefined_more c.args.ifaces.now es c.if-iface.map.entries c.loop-k.k i
                c.loop-k-test.true c.index-ifaces-k.is w.if-iface.false same
                ∙ c.loop-k.invariant.placed;
            within = subst (λ e. All (λ number. number < length c.args.ifaces.now) (values_of e))
                (sym same) c.loop-k.invariant.within;
          }
    ]

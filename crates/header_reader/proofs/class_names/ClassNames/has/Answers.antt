use Rattle.std.proofs.Common.{ℕ, Bool, List, ◌∙◌, ap, refl, sym}
use Rattle.std.specs.List.{list_any}
use Rattle.std.specs.Str.{bytes_eq}
use Rattle.header_model.specs.Declares.{has_name}
use Rattle.header_reader.proofs.NameSets.{eq_turned, same_any}
use Rattle.header_reader.proofs.class_names.ClassNames.has.Goals as goal

pub returns : goal.returns
returns c = λ decls known.
    let is : List ℕ → Bool = λ n. bytes_eq n c.args.name.now in
    c.contains.ensures ∙ (sym (same_any (λ v. v.items) is (λ v. bytes_eq c.args.name.now v.items) (λ v. eq_turned v.items c.args.name.now) c.self.inside.names.keys)
    ∙ (ap (list_any is) (c.self.view_is ∙ known) ∙ same_any (λ d. d.name) is (has_name c.args.name.now) (λ d. refl) decls))

use Rattle.std.proofs.Common.{ℕ, Bool, List, ◌∙◌, ap, refl, sym}
use Rattle.std.specs.Prelude.{position}
use Rattle.std.specs.Str.{bytes_eq}
use Rattle.header_model.specs.Declares.{has_name}
use Rattle.header_reader.proofs.NameSets.{eq_turned, place_found, same_number}
use Rattle.header_reader.proofs.class_names.ClassNames.number_of.Goals as goal

pub returns-clause-number : goal.returns-clause-number
returns-clause-number c = λ decls known.
    let is : List ℕ → Bool = λ n. bytes_eq n c.args.name.now in
    c.get_index_of.ensures.index
    ∙ (sym (same_number (λ v. v.items) is (λ v. bytes_eq c.args.name.now v.items) (λ v. eq_turned v.items c.args.name.now) c.self.inside.names.keys)
    ∙ (ap (position is) (c.self.view_is ∙ known) ∙ same_number (λ d. d.name) is (has_name c.args.name.now) (λ d. refl) decls))

pub returns-clause-within : goal.returns-clause-within
returns-clause-within c =
    let is : List ℕ → Bool = λ n. bytes_eq n c.args.name.now in
    place_found is c.args.self.now c.get_index_of.result
    (c.get_index_of.ensures.index
    ∙ (sym (same_number (λ v. v.items) is (λ v. bytes_eq c.args.name.now v.items) (λ v. eq_turned v.items c.args.name.now) c.self.inside.names.keys) ∙ ap (position is) c.self.view_is))

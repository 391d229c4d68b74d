pub mod HexLaws
pub mod Joined

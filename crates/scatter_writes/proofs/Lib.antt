pub mod RankLaws
pub mod WriteLaws
